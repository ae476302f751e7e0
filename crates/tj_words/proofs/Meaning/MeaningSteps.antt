-- Each kind of step keeps what stands within the meaning.
use Rattle.tj_words.proofs.Prelude.{Becomes, Begins, BitsSay, Entry, Filled, Hand, HasSeen, InRounds, IsCell, IsFull}
use Rattle.tj_words.proofs.Prelude.{IsIn, IsNamedThere, List, Lots, Name, None, Option, Program, Rec, Reference, Some}
use Rattle.tj_words.proofs.Prelude.{ToldBy, [], ap, arith, at_snoc, begins_self, dite, entries_are_one, get_elem?}
use Rattle.tj_words.proofs.Prelude.{in_left, inl, inr, refl, some, some-injective, subst, suc, sym, tag_of, ℕ}
use Rattle.tj_words.proofs.Prelude.{ℕ_discrete, ⊎_elim, ◌++◌, ◌<◌, ◌∙◌, ◌∷◌, ◌≡◌, ◌≢◌}
use Rattle.tj_body.proofs.Lists.{begins_more}
use Rattle.tj_words.specs.LawParts.Meaning.{HasCell}
use Rattle.tj_words.proofs.Meaning.MeaningGrows.{AreFilledIn, FilledIn, Ground, Known, Meant, grew_wider, knows_now}
use Rattle.tj_words.proofs.Meaning.MeaningGrows.{meaning_grows, wider, AreWrittenIn, Grew, IsThereOn, ToldIn, WrittenIn}
use Rattle.tj_words.proofs.Meaning.MeaningGrows.{meaning_counts, meaning_learns, meaning_moves, told_on}
use Rattle.tj_words.proofs.Stores.SeatLists.{all_cons, all_append, one_part}

module _ {B : Type 0} (program : Program B) (cells : ℕ) where
  module _ {count stop : ℕ} {g : Ground} {home : ℕ → Option (Rec B)} {k : Known}
      (m : Meant program cells count stop g home k) where
    -- seats that draw no cell and refuse none, and records that stay, leave COUNT and the rest: STOP is stored
    pub stop_meant : (stop' : ℕ) → (stop' ≡ 1 → cells < count) → Meant program cells count stop' g home k
    stop_meant stop' above = meaning_counts program cells m count stop' m.full above

    -- a draw that finds no cell left, where the meaning needs more cells than there are
    pub refused_meant : IsFull program cells → Meant program cells (suc count) stop g home k
    refused_meant full =
        meaning_counts program cells m (suc count) stop (λ l. full) (λ e. let l = m.stopped e in omega arith)

    -- a record leaves its slot
    pub out_meant : (home' : ℕ → Option (Rec B)) (t : ℕ) → home' t ≡ None → ((u : ℕ) → u ≢ t → home' u ≡ home u)
        → Meant program cells count stop g home' k
    out_meant home' t out else = meaning_moves program cells m home' t
        (λ r e. let z : None ≡ Some r = sym out ∙ e in absurd (cc)) else

    -- the seat
    module _ (id : ℕ) (b : List Reference) (w f : List Filled) (seen : get_elem? k.born_seen id ≡ some b)
        (wrote : get_elem? k.wrote id ≡ some w) (filled : get_elem? k.filled id ≡ some f) where
      begins : Begins b g.born
      begins = m.begins id b seen

      writes : AreWrittenIn program g w
      writes = m.wrote_stands id w wrote

      knows : AreFilledIn program g f
      knows = m.filled_stands id f filled

      -- a draw that finds a cell left: it has a name of some round, and is in hand
      pub draw_meant : (drawn' : ℕ) (hand' : ℕ → Option Hand) (x : Reference)
          → count < cells
          → drawn' ≡ suc g.drawn
          → ((c : ℕ) → c ≢ g.drawn → hand' c ≡ g.hand c)
          → InRounds program x.name
          → Meant program cells (suc count) stop (wider program g drawn' hand' (g.born ++ x ∷ [])) home
          (knows_now id (g.born ++ x ∷ []) w f k)
      draw_meant drawn' hand' x left more else named =
          meaning_learns program cells counted id born' w f (begins_self born')
          (λ y i. on.written y.cell y.entry (writes y i))
          (λ y i. on.filled y.cell y.entry (knows y i))
        where
          born' : List Reference
          born' = g.born ++ x ∷ []

          g' : Ground
          g' = wider program g drawn' hand' born'

          there : IsThereOn g g'
          there c h = let l = h.0 in ((omega arith), else c (λ q. omega arith) ∙ h.1)

          on : Grew program g g'
          on = grew_wider program g drawn' hand' born' (begins_more g.born (x ∷ [])) there

          grown : Meant program cells count stop g' home k
          grown = meaning_grows program cells m g' on
              (λ c y i. ⊎_elim (λ (q : IsCell g.born c y). inl q)
              (λ (q : x ≡ y). inr (subst (λ (z : Reference). InRounds program z.name) q named))
              (at_snoc g.born x y c i))
              (λ c n. inl n)

          counted : Meant program cells (suc count) stop g' home k
          counted = meaning_counts program cells grown (suc count) stop (λ l. absurd (omega arith))
              (λ e. let l = m.stopped e in omega arith)

      -- a record comes home that tells a point, by what the seat knows
      pub home_meant : (home' : ℕ → Option (Rec B)) (t : ℕ) (r : Rec B) → home' t ≡ Some r
          → ((u : ℕ) → u ≢ t → home' u ≡ home u) → ToldBy program b f r → Meant program cells count stop g home' k
      home_meant home' t r here else told = meaning_moves program cells m home' t
          (λ y e. let z : Some r ≡ Some y = sym here ∙ e in let same : r ≡ y = cc in subst (ToldIn program g) same
          (told_on program b g.born begins (HasSeen f) (FilledIn program g) (λ c d i. knows _ i) r told)) else

      -- a record at home is claimed: the seat knows then what all cells are and what has become of those that the
      -- record's point wrote, and the record tells its point by that
      pub claim_seen : (t : ℕ) (r : Rec B) → home t ≡ Some r → (more : List Filled)
          × AreFilledIn program g more × ToldBy program g.born (more ++ f) r
          × Meant program cells count stop g home (knows_now id g.born w (more ++ f) k)
      claim_seen t r e = let told = m.records t r e in let s = told.stands in
          let l = known_of told.point.writes s.writes in (
            l.0,
            l.1,
            record {
              point = told.point;
              tells = told.tells;
              tells_stage = told.tells_stage;
              stands = record {
                of_rounds = s.of_rounds;
                children = s.children;
                promises = s.promises;
                writes = λ q d i. let h = l.2 q d i in (h.0, h.1, h.2, h.3, in_left _ l.0 f h.4);
              };
            },
            meaning_learns program cells m id g.born w (l.0 ++ f) (begins_self g.born) writes
                (all_append _ l.0 f l.1 knows),
          )
        where
          known_of : (l : List (Name × Entry))
              → ((q : Name) (e : Entry) → IsIn (q, e) l → HasCell g.born q (λ c x. FilledIn program g c e))
              → (more : List Filled) × AreFilledIn program g more
              × ((q : Name) (e : Entry) → IsIn (q, e) l → HasCell g.born q (λ c x. HasSeen more c e))
          known_of [] h = ([], (λ y i. absurd i), (λ q e i. absurd i))
          known_of (z ∷ zs) h = let one = h z.0 z.1 (inl refl) in
              let rest = known_of zs (λ q e i. h q e (inr i)) in (
                record { cell = one.0; entry = z.1 } ∷ rest.0,
                all_cons _ (record { cell = one.0; entry = z.1 }) rest.0 one.4 rest.1,
                (λ q e i. ⊎_elim
                    (λ (p : (q, e) ≡ (z.0, z.1)). (
                      one.0,
                      one.1,
                      one.2,
                      one.3 ∙ sym (ap (λ (y : Name × Entry). y.0) p),
                      inl (λ j. record { cell = one.0; entry = (p j).1 }),
                    ))
                    (λ j. let d = rest.2 q e j in (d.0, d.1, d.2, d.3, inr d.4)) i),
              )

      -- the cell's name becomes this
      module _ (c : ℕ) (e : Entry) (x : Reference) (is : IsCell g.born c x) (becomes : Becomes program x.name e) where
        -- and nothing else
        one : (d : Entry) → WrittenIn program g c d → d ≡ e
        one d h = let same : h.reference ≡ x = some-injective h.reference x (sym h.is ∙ is) in
            (entries_are_one program x.name d e
            (subst (λ (z : Reference). Becomes program z.name d) same h.becomes) becomes).0

        -- BITS says this entry, and what it names is there
        abbrev Says : Entry → ℕ → Type 0
        Says y k = BitsSay g.born y k × IsNamedThere g.drawn g.hand y k

        -- the store of BITS
        pub bits_meant : (bits' : ℕ → ℕ) (n : ℕ) → bits' c ≡ n → ((d : ℕ) → d ≢ c → bits' d ≡ g.bits d)
            → BitsSay g.born e n → IsNamedThere g.drawn g.hand e n
            → Meant program cells count stop (record g { bits = bits' }) home
            (knows_now id b (record { cell = c; entry = e } ∷ w) f k)
        bits_meant bits' n here else say named =
            meaning_learns program cells grown id b (record { cell = c; entry = e } ∷ w) f begins
            (all_cons _ (record { cell = c; entry = e }) w
            (record {
              reference = x;
              is = is;
              becomes = becomes;
              bits_say = subst (BitsSay g.born e) (sym here) say;
              named_there = subst (IsNamedThere g.drawn g.hand e) (sym here) named;
            })
            (λ y i. written y.cell y.entry (writes y i)))
            (λ y i. on.filled y.cell y.entry (knows y i))
          where
            g' : Ground
            g' = record g { bits = bits' }

            says : (d : ℕ) (y : Entry) → WrittenIn program g d y → Says y (bits' d)
            says d y h = dite (ℕ_discrete d c)
                (λ q. let same = one y (subst (λ i. WrittenIn program g i y) q h) in
                subst (Says y) (sym (ap bits' q ∙ here)) (subst (λ z. Says z n) (sym same) (say, named)))
                (λ q. subst (Says y) (sym (else d q)) (h.bits_say, h.named_there))

            written : (d : ℕ) (y : Entry) → WrittenIn program g d y → WrittenIn program g' d y
            written d y h = let now = says d y h in record {
              reference = h.reference;
              is = h.is;
              becomes = h.becomes;
              bits_say = now.0;
              named_there = now.1;
            }

            on : Grew program g g'
            on = record {
              more = begins_self g.born;
              written = written;
              filled = λ d y h. record { written = written d y h.written; tag_is = h.tag_is };
            }

            grown : Meant program cells count stop g' home k
            grown = meaning_grows program cells m g' on (λ d y i. inl i) (λ d q. inl q)

      -- the store of TAG, after that of BITS
      pub tag_meant : (tag' : ℕ → ℕ) (c : ℕ) (e : Entry) → HasSeen w c e → tag' c ≡ tag_of e
          → ((d : ℕ) → d ≢ c → tag' d ≡ g.tag d)
          → Meant program cells count stop (record g { tag = tag' }) home
          (knows_now id b w (record { cell = c; entry = e } ∷ f) k)
      tag_meant tag' c e due here else =
          meaning_learns program cells grown id b w (record { cell = c; entry = e } ∷ f) begins
          (λ y i. written y.cell y.entry (writes y i))
          (all_cons _ (record { cell = c; entry = e }) f new (λ y i. filled_on y.cell y.entry (knows y i)))
        where
          g' : Ground
          g' = record g { tag = tag' }

          wrote_it : WrittenIn program g c e
          wrote_it = writes _ due

          written : (d : ℕ) (y : Entry) → WrittenIn program g d y → WrittenIn program g' d y
          written d y h = record {
            reference = h.reference;
            is = h.is;
            becomes = h.becomes;
            bits_say = h.bits_say;
            named_there = h.named_there;
          }

          filled_on : (d : ℕ) (y : Entry) → FilledIn program g d y → FilledIn program g' d y
          filled_on d y h = record {
            written = written d y h.written;
            tag_is = dite (ℕ_discrete d c)
                (λ q. ap tag' q ∙ (here ∙ ap tag_of (sym (one c e wrote_it.reference wrote_it.is wrote_it.becomes y
                (subst (λ i. WrittenIn program g i y) q h.written)))))
                (λ q. else d q ∙ h.tag_is);
          }

          new : FilledIn program g' c e
          new = record { written = written c e wrote_it; tag_is = here }

          on : Grew program g g'
          on = record { more = begins_self g.born; written = written; filled = filled_on }

          grown : Meant program cells count stop g' home k
          grown = meaning_grows program cells m g' on (λ d y i. inl i)
              (λ d q. dite (ℕ_discrete d c)
              (λ s. inr (e, subst (λ i. FilledIn program g' i e) (sym s) new))
              (λ s. inl (λ z. q (else d s ∙ z))))

-- where a seat has had a draw refused, COUNT is above the number of cells: it may store STOP
pub refused_above : (cells count : ℕ) (lots refused : List ℕ) → Lots cells count lots refused → (id r : ℕ)
    → get_elem? refused id ≡ some r → 0 < r → cells < count
refused_above cells count lots refused h id r at some_refused =
    let a = h.counted in let b = one_part refused id r at in omega arith
