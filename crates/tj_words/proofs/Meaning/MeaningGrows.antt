-- What a record says of a point, and what stands of the meaning, stays as cells are drawn, come out of hand and get
-- entries.
use Rattle.tj_words.proofs.Prelude.{All, Answer, ArePairs, Begins, BitsSay, Bool, Close, Entry, Fill, FillSays, Filled}
use Rattle.tj_words.proofs.Prelude.{Finish, Hand, HasName, HeldSays, InRounds, IsCell, IsFilled, IsFull, IsNamedThere}
use Rattle.tj_words.proofs.Prelude.{IsThere, IsToldRecord, IsWritten, List, Meaning, Option, Point, Program, Rec}
use Rattle.tj_words.proofs.Prelude.{Reference, Some, StandsIn, Tells, Value, [], arith, at_longer, begins_trans, dite}
use Rattle.tj_words.proofs.Prelude.{set, subst, sym, to_task, ℕ, ℕ_discrete, ⊎_elim, ◌<◌, ◌∙◌, ◌∷◌, ◌≡◌, ◌≢◌, ◌⊎◌}
use Rattle.tj_words.specs.LawParts.Telling.{FinishSays, TellsStage, HurtSays}
use Rattle.tj_base.specs.declared.cause.Cause.{Cause}
use Rattle.tj_record.specs.declared.record.Hurt.{Hurt}
use Rattle.tj_words.proofs.Stores.SeatLists.{each_set}

-- lists agree by a relation that the one by which they agree implies
pub pairs_map : {A C : Type 0} (F G : A → C → Type 0) → ((x : A) (y : C) → F x y → G x y) → (xs : List A)
    (ys : List C) → ArePairs F xs ys → ArePairs G xs ys
pairs_map F G f [] [] h = tt
pairs_map F G f [] (y ∷ ys) h = absurd h
pairs_map F G f (x ∷ xs) [] h = absurd h
pairs_map F G f (x ∷ xs) (y ∷ ys) h = (f x y h.0, pairs_map F G f xs ys h.1)

module _ (b b' : List Reference) (more : Begins b b') where
  pub cell_on : (c : ℕ) (x : Reference) → IsCell b c x → IsCell b' c x
  cell_on c x h = subst (λ l. IsCell l c x) (sym more.1) (at_longer b more.0 c x h)

  pub bits_on : (e : Entry) (n : ℕ) → BitsSay b e n → BitsSay b' e n
  bits_on e n h = grind (arith, cell_on)

  fill_on : (f : Fill) (v : Value) → FillSays b f v → FillSays b' f v
  fill_on f v h = grind (arith, cell_on)

  hurt_on : (f : Hurt) (why : Cause) → HurtSays b f why → HurtSays b' f why
  hurt_on f why h = grind (arith, cell_on)

  finish_on : (f : Finish) (e : Close) → FinishSays b f e → FinishSays b' f e
  finish_on f e h = grind (arith, fill_on, hurt_on)

  module _ {B : Type 0} where
    pub tells_on : (r : Rec B) (p : Point B) → Tells b r p → Tells b' r p
    tells_on r p h = record {
      of = cell_on r.cell.0 (to_task p.name) h.of;
      body = h.body;
      held = pairs_map (HeldSays b) (HeldSays b') (λ k x w. (cell_on k.cell.0 x w.0, w.1)) r.held p.references h.held;
      owned_cells = pairs_map (HasName b) (HasName b') (λ c q w. (w.0, cell_on c.0 w.0 w.1, w.2)) r.owned _
          h.owned_cells;
      made = h.made;
      prints = h.prints;
      owed = (
        h.owed.0,
        pairs_map (HasName b) (HasName b') (λ c q w. (w.0, cell_on c.0 w.0 w.1, w.2)) r.owed h.owed.0 h.owed.1,
        h.owed.2,
      );
    }

    pub stage_on : (o : Option Finish) (a : Answer) (spare : Bool) (p : Point B) → TellsStage b o a spare p
        → TellsStage b' o a spare p
    stage_on o a spare p h = grind (arith, finish_on)

module _ {B : Type 0} (program : Program B) (b b' : List Reference) (more : Begins b b')
    (F F' : ℕ → Entry → Type 0) (on : (c : ℕ) (e : Entry) → F c e → F' c e) where
  pub stands_on : (p : Point B) → StandsIn program b F p → StandsIn program b' F' p
  stands_on p h = record {
    of_rounds = h.of_rounds;
    children = λ k i. let w = h.children k i in (w.0, w.1, cell_on b b' more w.0 w.1 w.2, w.3, w.4);
    promises = λ q i. let w = h.promises q i in (w.0, w.1, cell_on b b' more w.0 w.1 w.2, w.3, w.4);
    writes = λ q e i. let w = h.writes q e i in (w.0, w.1, cell_on b b' more w.0 w.1 w.2, w.3, on w.0 e w.4);
  }

  -- a record tells more where more is known
  pub told_on : (r : Rec B) → IsToldRecord program b F r → IsToldRecord program b' F' r
  told_on r h = record {
    point = h.point;
    tells = tells_on b b' more r h.point h.tells;
    tells_stage = stage_on b b' more r.finish r.answer r.spare h.point h.tells_stage;
    stands = stands_on h.point h.stands;
  }

-- what the meaning reads of the cells: which are drawn and in hand, what they are, and their TAG and BITS
pub record Ground : Type 0 where
  pub drawn : ℕ
  pub hand : ℕ → Option Hand
  pub born : List Reference
  pub tag : ℕ → ℕ
  pub bits : ℕ → ℕ

-- what the seats know of it
pub record Known : Type 0 where
  pub born_seen : List (List Reference)
  pub wrote : List (List Filled)
  pub filled : List (List Filled)

-- seat id knows this from now on
abbrev pub knows_now : ℕ → List Reference → List Filled → List Filled → Known → Known
knows_now id b w f k = record {
  born_seen = set k.born_seen id b;
  wrote = set k.wrote id w;
  filled = set k.filled id f;
}

-- a cell that is there stays there
abbrev pub IsThereOn : Ground → Ground → Type 0
IsThereOn g g' = (c : ℕ) → IsThere g.drawn g.hand c → IsThere g'.drawn g'.hand c

pub named_on : (g g' : Ground) → IsThereOn g g' → (e : Entry) (n : ℕ) → IsNamedThere g.drawn g.hand e n
    → IsNamedThere g'.drawn g'.hand e n
named_on g g' there e n h = grind (arith, there)

module _ {B : Type 0} (program : Program B) where
  abbrev pub WrittenIn : Ground → ℕ → Entry → Type 0
  WrittenIn g c e = IsWritten program g.drawn g.hand g.born g.tag g.bits c e

  abbrev pub FilledIn : Ground → ℕ → Entry → Type 0
  FilledIn g c e = IsFilled program g.drawn g.hand g.born g.tag g.bits c e

  abbrev pub AreWrittenIn : Ground → List Filled → Type 0
  AreWrittenIn g l = All (λ (f : Filled). WrittenIn g f.cell f.entry) l

  abbrev pub AreFilledIn : Ground → List Filled → Type 0
  AreFilledIn g l = All (λ (f : Filled). FilledIn g f.cell f.entry) l

  abbrev pub ToldIn : Ground → Rec B → Type 0
  ToldIn g r = IsToldRecord program g.born (FilledIn g) r

  -- cells, and what has become of them, are added
  pub record Grew (g g' : Ground) : Type 0 where
    pub more : Begins g.born g'.born
    pub written : (c : ℕ) (e : Entry) → WrittenIn g c e → WrittenIn g' c e
    pub filled : (c : ℕ) (e : Entry) → FilledIn g c e → FilledIn g' c e

  -- cells are drawn, or come out of hand
  module _ (g : Ground) (drawn : ℕ) (hand : ℕ → Option Hand) (born : List Reference) where
    abbrev pub wider : Ground
    wider = record { drawn = drawn; hand = hand; born = born; tag = g.tag; bits = g.bits }

    written_wider : Begins g.born born → IsThereOn g wider → (c : ℕ) (e : Entry) → WrittenIn g c e
        → WrittenIn wider c e
    written_wider more there c e h = record {
      reference = h.reference;
      is = cell_on g.born born more c h.reference h.is;
      becomes = h.becomes;
      bits_say = bits_on g.born born more e (g.bits c) h.bits_say;
      named_there = named_on g wider there e (g.bits c) h.named_there;
    }

    pub grew_wider : Begins g.born born → IsThereOn g wider → Grew g wider
    grew_wider more there = record {
      more = more;
      written = written_wider more there;
      filled = λ c e h. record { written = written_wider more there c e h.written; tag_is = h.tag_is };
    }

  module _ (cells : ℕ) where
    -- the meaning of what stands there
    abbrev pub Meant : ℕ → ℕ → Ground → (ℕ → Option (Rec B)) → Known → Type 0
    Meant count stop g home k =
        Meaning program cells count stop g.drawn g.hand g.born g.tag g.bits home k.born_seen k.wrote k.filled

    module _ {count stop : ℕ} {g : Ground} {home : ℕ → Option (Rec B)} {k : Known} (m : Meant count stop g home k) where
      -- what stands moves on
      pub meaning_grows : (g' : Ground) → Grew g g'
          → ((c : ℕ) (x : Reference) → IsCell g'.born c x → IsCell g.born c x ⊎ InRounds program x.name)
          → ((c : ℕ) → g'.tag c ≢ 0 → (g.tag c ≢ 0) ⊎ ((e : Entry) × FilledIn g' c e))
          → Meant count stop g' home k
      meaning_grows g' on names entries = record {
        names = λ c x i. ⊎_elim (λ q. m.names c x q) (λ q. q) (names c x i);
        entries = λ c n. ⊎_elim (λ (q : g.tag c ≢ 0). let h = m.entries c q in (h.0, on.filled c h.0 h.1)) (λ q. q)
            (entries c n);
        records = λ t r e. told_on program g.born g'.born on.more (FilledIn g) (FilledIn g') on.filled r
            (m.records t r e);
        full = m.full;
        stopped = m.stopped;
        begins = λ j l e. begins_trans l g.born g'.born (m.begins j l e) on.more;
        wrote_stands = λ j l e f i. on.written f.cell f.entry (m.wrote_stands j l e f i);
        filled_stands = λ j l e f i. on.filled f.cell f.entry (m.filled_stands j l e f i);
      }

      -- a seat learns what is so
      pub meaning_learns : (id : ℕ) (b : List Reference) (w f : List Filled) → Begins b g.born → AreWrittenIn g w
          → AreFilledIn g f → Meant count stop g home (knows_now id b w f k)
      meaning_learns id b w f begins written filled = record {
        names = m.names;
        entries = m.entries;
        records = m.records;
        full = m.full;
        stopped = m.stopped;
        begins = each_set _ k.born_seen id b m.begins begins;
        wrote_stands = each_set _ k.wrote id w m.wrote_stands written;
        filled_stands = each_set _ k.filled id f m.filled_stands filled;
      }

      -- a record leaves its slot, or one comes home that tells a point within
      pub meaning_moves : (home' : ℕ → Option (Rec B)) (t : ℕ) → ((r : Rec B) → home' t ≡ Some r → ToldIn g r)
          → ((u : ℕ) → u ≢ t → home' u ≡ home u) → Meant count stop g home' k
      meaning_moves home' t tells else = record {
        names = m.names;
        entries = m.entries;
        records = λ u r e. dite (ℕ_discrete u t)
            (λ q. tells r (subst (λ v. home' v ≡ Some r) q e))
            (λ n. m.records u r (sym (else u n) ∙ e));
        full = m.full;
        stopped = m.stopped;
        begins = m.begins;
        wrote_stands = m.wrote_stands;
        filled_stands = m.filled_stands;
      }

      -- COUNT and STOP change
      pub meaning_counts : (count' stop' : ℕ) → (cells < count' → IsFull program cells)
          → (stop' ≡ 1 → cells < count') → Meant count' stop' g home k
      meaning_counts count' stop' full stopped = record {
        names = m.names;
        entries = m.entries;
        records = m.records;
        full = full;
        stopped = stopped;
        begins = m.begins;
        wrote_stands = m.wrote_stands;
        filled_stands = m.filled_stands;
      }
