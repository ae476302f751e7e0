-- The store of Promise into PHASE of a promise in hand keeps the law: its hand has the same maker and sort, and no part
-- of the law reads more of it and of the phase of such a cell.
use Rattle.tj_words.proofs.Prelude.{Allows, Bool, CellId, Contents, Custodies, Custody, Hand, Hands, HasInHand}
use Rattle.tj_words.proofs.Prelude.{IsInHand, IsMarkedRight, IsRecordIn, IsThere, Key, Law, List, LiveCount, None}
use Rattle.tj_words.proofs.Prelude.{Option, Phase, Program, Rec, Rule, SeatMe, Some, State, View, Walk, Way, ap, arith}
use Rattle.tj_words.proofs.Prelude.{at_map, at_put, begins_self, drawn_in, get_elem?, hand_in, hand_of, hand_phase}
use Rattle.tj_words.proofs.Prelude.{held_in, held_of, home_of, inl, live_part, made_by, making, mark, none, phase_at}
use Rattle.tj_words.proofs.Prelude.{phase_in, phase_word, put, put_else, put_here, refl, seats_have, set, set_again}
use Rattle.tj_words.proofs.Prelude.{some, sort_shown, step, subst, sym, tag_in, true, words_say, ℕ, ◌+◌, ◌<◌, ◌∙◌, ◌≡◌}
use Rattle.tj_words.proofs.Prelude.{◌≢◌}
use Rattle.tj_words.proofs.Lemmas.{IsAlike, IsQuietStep, Stores, at_two, back, births_on, custody_on, facts_quiet}
use Rattle.tj_words.proofs.Lemmas.{grew_wider, ground_of, hand_put, hands_on, law_meant, meaning_grows, none_some}
use Rattle.tj_words.proofs.Lemmas.{none_unless, noted_same, of_seat_set, once_on, one_some, parts_of, seats_same}
use Rattle.tj_words.proofs.Lemmas.{step_allowed, store_word, stored, tree_on, wider}
use Rattle.tj_words.specs.Calls.DrawViews.{MayMark, marked_promise, mark_store}
use Rattle.tj_words.proofs.Cells.SeatHands.{makes_kept}
use Rattle.tj_words.proofs.Events.QuietCells.{mark_shown}
use Rattle.tj_words.proofs.Stores.WordStores.{hand_here}
use Rattle.tj_words.proofs.Waiters.ChainPhases.{chains_turn}
use Rattle.tj_words.proofs.Waiters.LiveSteps.{count_turned}
use Rattle.tj_base.specs.declared.cell.Sort.TheVariants as sort
use Rattle.tj_words.specs.declared.phase.Phase.TheVariants as phase
use Rattle.tj_words.proofs.Stores.TableWords as table_word

-- a cell in hand waits for nothing by its phase, and adds nothing to LIVE
hand_waits : (m : Bool) (p : CellId) (way : Way) (w : Walk) → hand_phase m ≢ phase.Waiting p way w
hand_waits m p way w e = grind arith

hand_live : (m : Bool) → live_part (hand_phase m) ≡ 0
hand_live m = grind arith

module _ {B : Type 0} {program : Program B} {cells : ℕ} {x : Contents B} (r : Law program cells x) (id : ℕ) (h : Hand)
    (has : get_elem? x.seats.hands id ≡ some (Some h)) (promise : h.sort ≡ sort.Promise) where
  abbrev n : ℕ
  n = drawn_in cells x

  abbrev c : ℕ
  c = h.cell

  abbrev h' : Hand
  h' = record h { marked = true }

  abbrev hands' : List (Option Hand)
  hands' = set x.seats.hands id (Some h')

  abbrev phases : ℕ → Phase
  phases = put x.words.phase c phase.Promise

  -- the contents where it is marked, in the hand and in PHASE
  abbrev pub marked : Contents B
  marked = record x { words = record x.words { phase = phases }; seats = record x.seats { hands = hands' } }

  here : hand_of x c ≡ Some h
  here = hand_here r id h has

  in_hand : IsInHand n x.words.phase x.seats.tasks id h
  in_hand = r.hands.each id h has

  only : (j : ℕ) (g : Hand) → j ≢ id → get_elem? x.seats.hands j ≡ some (Some g) → g.cell ≢ c
  only j g d e q = d (r.hands.apart j id g h e has q)

  column : hand_in hands' ≡ put (hand_of x) c (Some h')
  column = hand_put x.seats.hands id c (Some h) (Some h') has refl refl only

  makes : (t : ℕ) → making hands' t ≡ making x.seats.hands t
  makes = makes_kept x.seats.hands id h h' has refl

  -- what is in hand now was in hand, of the same maker, and what was is
  before : (d : ℕ) (g : Hand) → hand_in hands' d ≡ Some g
      → (f : Hand) × (hand_of x d ≡ Some f) × (g.maker ≡ f.maker)
  before d g e = at_put (hand_of x) c (Some h')
      (λ d z. z ≡ Some g → (f : Hand) × (hand_of x d ≡ Some f) × (g.maker ≡ f.maker)) d
      (λ e. (h, here, ap (λ (z : Hand). z.maker) (sym (one_some h' g e)))) (λ _ e. (g, e, refl))
      (sym (ap (λ f. f d) column) ∙ e)

  still : (d : ℕ) (g : Hand) → hand_of x d ≡ Some g
      → (f : Hand) × (hand_in hands' d ≡ Some f) × (f.maker ≡ g.maker)
  still d g e = subst (λ o. (f : Hand) × (o d ≡ Some f) × (f.maker ≡ g.maker)) (sym column)
      (at_put (hand_of x) c (Some h')
      (λ d z. hand_of x d ≡ Some g → (f : Hand) × (z ≡ Some f) × (f.maker ≡ g.maker)) d
      (λ e. (h', refl, ap (λ (z : Hand). z.maker) (one_some h g (sym here ∙ e)))) (λ _ e. (g, e, refl)) e)

  on : (d : ℕ) → IsThere n (hand_of x) d → IsThere n (hand_in hands') d
  on d i = (
    i.0,
    none_unless (hand_in hands' d)
        (λ g e. let b = before d g e in none_some (hand_of x d) b.0 i.1 b.1),
  )

  back_on : (d : ℕ) → IsThere n (hand_in hands') d → IsThere n (hand_of x) d
  back_on d i = (
    i.0,
    none_unless (hand_of x d)
        (λ g e. let a = still d g e in none_some (hand_in hands' d) a.0 i.1 a.1),
  )

  -- each cell is what it was, each task stands where it stood, and each that waits waited
  sorts : (d : ℕ) → sort_shown (hand_in hands' d) (phases d) ≡ sort_shown (hand_of x d) (x.words.phase d)
  sorts d = (λ j. sort_shown (column j d) (phases d)) ∙ at_two (hand_of x) x.words.phase c (Some h') phase.Promise
      (λ d o q. sort_shown o q ≡ sort_shown (hand_of x d) (x.words.phase d)) d
      (λ j. sort_shown (sym here j) (x.words.phase c)) (λ _. refl)

  tasks_same : (t : ℕ) → sort_shown (hand_of x t) (x.words.phase t) ≡ sort.Task → phases t ≡ x.words.phase t
  tasks_same t e = put_else x.words.phase c phase.Promise t (λ q. let z : sort.Promise ≡ sort.Task = sym promise
      ∙ ((λ j. sort_shown (sym here j) (x.words.phase c))
      ∙ (ap (λ u. sort_shown (hand_of x u) (x.words.phase u)) (sym q) ∙ e)) in cc)

  waits : (u : ℕ) (p : CellId) (way : Way) (w : Walk) → phases u ≡ phase.Waiting p way w
      → x.words.phase u ≡ phase.Waiting p way w
  waits u p way w e = at_put x.words.phase c phase.Promise
      (λ u z. z ≡ phase.Waiting p way w → x.words.phase u ≡ phase.Waiting p way w) u
      (λ e. absurd (hand_waits true p way w e)) (λ _ e. e) e

  not_home : (t : ℕ) (y : Rec B) → home_of x t ≡ Some y → t ≢ c
  not_home t y e q = none_some (hand_of x c) h (ap (hand_of x) (sym (r.custody.own_slots t y e ∙ q))
      ∙ (r.names.records t y e y.cell.0 (inl refl)).1) here

  hands_now : Hands n phases hands' x.seats.tasks
  hands_now = let m = in_hand.maker_held in
      subst (Hands n phases hands') (set_again x.seats.tasks id m.0 m.1)
      (hands_on r.hands id (Some h') m.0 (omega arith)
      (λ j g q e. put_else x.words.phase c phase.Promise g.cell (only j g q e))
      (λ g e. subst (IsInHand n phases (set x.seats.tasks id m.0) id) (one_some h' g e) record {
        drawn_cell = in_hand.drawn_cell;
        marked = put_here x.words.phase c phase.Promise;
        marked_right = subst (λ o. IsMarkedRight o true) (sym promise) tt;
        maker_held = of_seat_set (λ ks. (k : Custody B) × (held_in ks h.maker ≡ Some k) × (k.home ≡ None))
            x.seats.tasks id id m.0 m.0 m.1 (λ z. z) m;
      })
      (λ g e j f q z. subst (λ (y : Hand). f.cell ≢ y.cell) (one_some h' g e) (only j f q z)))

  -- the step shows nothing
  pub marked_quiet : IsQuietStep r marked
  marked_quiet = (
    mark_shown cells x marked c h here
        (λ j. record (parts_of cells x) { hand = column j; making = λ t. makes t j; phase = phases }) r.born r.maker,
    record {
      there = λ d i. record { out = (on d i).1; parent_is = refl; kid_is = refl };
      hands = λ d g e. let a = still d g e in inl (record {
        hand = a.0;
        in_hand = a.1;
        maker_is = a.2;
        made_is = λ j. made_by (held_of x g.maker) (home_of x g.maker) + makes g.maker j;
      });
    },
  )

  -- the law holds then
  pub law_marked : (tokens : ℕ) → get_elem? x.seats.tokens id ≡ some tokens → Law program cells marked
  law_marked tokens at = let m = in_hand.maker_held in record {
    born = r.born;
    maker = r.maker;
    number = r.number;
    forks = r.forks;
    lots = r.lots;
    hands = hands_now;
    names = record {
      owned = λ d t e. let o = r.names.owned d t e in (on d o.0, on t o.1);
      waits = λ u p way w e. on p.0 (r.names.waits u p way w (waits u p way w e));
      records = λ t y e d i. on d (r.names.records t y e d i);
      walks = λ j ks e a i d l. on d (r.names.walks j ks e a i d l);
      knows = λ j l e d i. on d (r.names.knows j l e d i);
    };
    births = births_on r.births on sorts before (λ t. ap (λ k. made_by (held_of x t) (home_of x t) + k) (makes t));
    tree = tree_on on refl r.tree;
    tree_words = record {
      written = λ d y f i e o. r.tree_words.written d y f (back_on d i) e o;
      in_hand = λ d g y f e i o. let b = before d g e in r.tree_words.in_hand d b.0 y f b.1 i o;
    };
    custody = subst (Custodies cells n (hand_in hands') phases x.slots) (set_again x.seats.tasks id m.0 m.1)
        (custody_on r.custody (hand_in hands') phases id m.0 m.0 m.1 (λ t l. sorts t) tasks_same
        (λ u. noted_same IsAlike (λ k. inl refl) (held_in m.0 u)));
    owned = record {
      owners = λ d t i. r.owned.owners d t (back_on d i);
      owned_there = λ d t i. on d (r.owned.owned_there d t i);
      owned_apart = r.owned.owned_apart;
    };
    once_words = once_on r.once_words (λ d i e. (on d i, e)) (λ d i e. (back_on d i, e))
        (λ d j f e z. of_seat_set (HasInHand d) x.seats.hands id j (Some h) (Some h') has
        (λ w. (h', refl, ap (λ (z : Hand). z.cell) (one_some h w.0 w.1) ∙ w.2))
        ((r.once_words.may_be_due d j f e).tree z));
    chains = chains_turn r.chains c phase.Promise
        (λ p y. hand_waits h.marked _ _ _ (sym in_hand.marked ∙ y.1)) (λ p y. hand_waits true _ _ _ y.1);
    live_count = subst (λ l. LiveCount cells x.words.live phases l x.seats.rested)
        (set_again x.seats.tokens id tokens at)
        (count_turned r.live_count c phase.Promise id tokens tokens (let l = in_hand.drawn_cell in omega arith) at
        (ap (λ k. k + tokens) (sym (ap live_part in_hand.marked ∙ hand_live h.marked))));
    stops = r.stops;
    waiters_own = λ u p way w e. r.waiters_own u p way w (waits u p way w e);
    records_fit = λ t y e. subst (λ q. IsRecordIn (tag_in x) q y)
        (sym (put_else x.words.phase c phase.Promise t (not_home t y e))) (r.records_fit t y e);
    meaning = meaning_grows program cells (law_meant program cells x r)
        (wider program (ground_of cells r.born x) n (hand_in hands') r.born)
        (grew_wider program (ground_of cells r.born x) n (hand_in hands') r.born (begins_self r.born) on)
        (λ d y i. inl i) (λ d z. inl z);
    undrawn = λ d l. put_else x.words.phase c phase.Promise d (λ e. let i = in_hand.drawn_cell in omega arith)
        ∙ r.undrawn d l;
    facts = facts_quiet r marked_quiet;
  }

module _ {B : Type 0} {program : Bool → B → Program B} {key : Key B} {s : State (Option (Rec B)) (View B)}
    (r : Rule program key s) (id : ℕ) {c : ℕ} {v : View B} (at : get_elem? s.views id ≡ some v) (m : MayMark c v) where
  abbrev h : Hand
  h = m.hand

  pub has : get_elem? (seats_have s.views).hands id ≡ some (Some h)
  has = at_map (λ (u : View B). u.hand) s.views id v at ∙ ap (λ (o : Option Hand). some o) m.has

  abbrev after_mark : Contents B
  after_mark = marked r.law id h has m.promise

  -- the step shows nothing
  pub mark_quiet : IsQuietStep r.law after_mark
  mark_quiet = marked_quiet r.law id h has m.promise

  -- what the store leaves: the promise is marked, in the hand and in PHASE
  pub mark_path : (n : ℕ) → phase_in n ≡ phase.Promise
      → stored s id (table_word.Phase c) n (marked_promise v) ≡ after_mark
  mark_path n is j = record {
    words = record (words_say s.words) { phase = put (words_say s.words).phase (sym m.its_cell j) (is j) };
    slots = s.homes;
    seats = record (seats_same s.views id v at j) { hands = set (seats_have s.views).hands id (mark (m.has j)) };
  }

  pub mark_stores : c < key.cells → Stores program key s id (phase_at c) (phase_word phase.Promise) (marked_promise v)
  mark_stores l = store_word program key s id (table_word.Phase c) (phase_word phase.Promise) (marked_promise v)
      (let e = r.all_words in omega arith)
      (record { code = refl; waits = λ d way w e. let z : phase.Promise ≡ phase.Waiting d way w = e in absurd (cc) })
      (r.seats id v at) (r.pushed id v at) after_mark (mark_path (phase_word phase.Promise) refl)
      (law_marked r.law id h has m.promise v.tokens (at_map (λ (u : View B). u.tokens) s.views id v at))

pub mark_allowed : {B : Type 0} (program : Bool → B → Program B) (key : Key B)
    (slots id : ℕ) (m : SeatMe B) (c i n : ℕ) → c < key.cells → i ≡ phase_at c
    → n ≡ phase_word phase.Promise → MayMark c m.0
    → Allows (Rule program key) slots id m i (λ k. n) (λ k. mark_store (step slots i n 0 none) m n)
mark_allowed program key slots id m c i n l at is may = step_allowed program key slots id m i (λ k. n)
    (λ k. mark_store (step slots i n 0 none) m n) (λ s r k. (
      marked_promise m.0,
      back (λ j. Stores program key s id (at j) (is j) (marked_promise m.0))
          (mark_stores r id k may l),
      (refl, refl),
    ))
