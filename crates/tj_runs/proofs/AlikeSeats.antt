-- What a seat has of names and values is the table's own at each later moment of a run: a step keeps the names of the
-- cells that are there, and a value is set for good.
use Rattle.tj_words.proofs.Prelude.{AreAskedMoments, AreMoments, BitsSay, Bool, Contents, Entry, IsAskedStep, IsCell}
use Rattle.tj_words.proofs.Prelude.{IsIn, IsTableStep, List, Name, Option, Program, Reference, Ruled, State, [], ap}
use Rattle.tj_words.proofs.Prelude.{arith, bits_in, contents_of, drawn_in, get_elem?, inl, inr, last_moment}
use Rattle.tj_words.proofs.Prelude.{reference_of, refl, some, some-injective, subst, sym, tag_in, tag_of, ℕ, ◌<◌, ◌↔◌}
use Rattle.tj_words.proofs.Prelude.{◌∙◌, ◌∷◌, ◌≡◌, ◌≢◌, ◌≤◌}
use Rattle.tj_record.specs.declared.record.Rec.{Rec}
use Rattle.tj_words.specs.declared.table.Key.{Key}
use Rattle.tj_words.specs.declared.view.Filled.{Filled}
use Rattle.tj_words.specs.declared.view.View.{View}
use Rattle.tj_words.proofs.Lemmas.{IsSo, KeepsCells, born_apart, cell_born, index_is, inside, knowing_of, knows_so}
use Rattle.tj_words.proofs.Lemmas.{name_of}
use Rattle.tj_words.specs.CallLaws.CallRuns.{asked_by}
use Rattle.tj_runs.specs.LastingWords.{AreOpenPushes, IsOpenPush}
use Rattle.tj_runs.specs.AlikeSeats.{IsTheTables, MergedSeatsAgree, SeatsKnowForGood, SeatsNumberAlike}
use Rattle.tj_runs.proofs.CallRuns.{call_goes, seats_go}
use Rattle.tj_runs.proofs.LastingWords.{count_never_falls, values_for_good}
use Rattle.tj_runs.proofs.OneStates.{kept_name}
use Rattle.tj_words.proofs.Seating.Merging.{begins_at}
use Rattle.tj_words.proofs.SeatLoads.KnowLoads.{tag_some}

-- BITS says over one list of names what it says over another, where both have one name for the cell and TAG is the same
same_bits : (born then : List Reference) (n : ℕ) (e d : Entry)
    → ((r s : Reference) → IsCell born n r → IsCell then n s → s.name ≡ r.name) → tag_of d ≡ tag_of e
    → BitsSay born e n → BitsSay then d n → BitsSay then e n
same_bits born then n e d same t h g = grind arith

module _ {B : Type 0} (program : Bool → B → Program B) (key : Key B) where
  abbrev The : State (Option (Rec B)) (View B) → Contents B
  The s = contents_of s

  -- an asked step is a step of a table
  abbrev pub plain_step : (s t : State (Option (Rec B)) (View B)) → IsAskedStep program key s t
      → IsTableStep program key s t
  plain_step s t (inl c) = inl c.made
  plain_step s t (inr (inl b)) = inr (inl b)
  plain_step s t (inr (inr b)) = inr (inr b.merge)

  -- moments of calls that are asked for are moments
  abbrev pub plain_moments : (u : Ruled program key) (later : List (Ruled program key))
      → AreAskedMoments program key u later → AreMoments program key u later
  plain_moments u [] a = tt
  plain_moments u (w ∷ ws) a = (plain_step u.now w.now a.0, plain_moments w ws a.1)

  -- a push among them asks for a head that isn't shut
  open_push : (s t : State (Option (Rec B)) (View B)) (a : IsAskedStep program key s t)
      → IsOpenPush program key s t (plain_step s t a)
  open_push s t (inl c) = λ p e. (subst (λ z. asked_by program key z c.made.operands c.made.seat) e c.asks).4
  open_push s t (inr (inl b)) = tt
  open_push s t (inr (inr b)) = tt

  pub open_pushes : (u : Ruled program key) (later : List (Ruled program key))
      (a : AreAskedMoments program key u later) → AreOpenPushes program key u later (plain_moments u later a)
  open_pushes u [] a = tt
  open_pushes u (w ∷ ws) a = (open_push u.now w.now a.0, open_pushes w ws a.1)

  keeps : (u w : Ruled program key) → IsAskedStep program key u.now w.now
      → KeepsCells key.cells (The u.now) (The w.now)
  keeps u w (inl c) = (call_goes program key u w.now c).2.keeps
  keeps u w (inr b) = (seats_go program key u w.now b).keeps

  abbrev named : Ruled program key → ℕ → Name
  named u c = (reference_of u.rule.law.born c).name

  -- the names of the cells that are drawn stay
  names_stay : (u : Ruled program key) (later : List (Ruled program key)) → AreAskedMoments program key u later
      → (c : ℕ) → c < drawn_in key.cells (The u.now)
      → (c < drawn_in key.cells (The (last_moment program key u later).now))
      × (named (last_moment program key u later) c ≡ named u c)
  names_stay u [] a c l = (l, refl)
  names_stay u (w ∷ ws) a c l =
      let more = count_never_falls B program key u (w ∷ []) (plain_step u.now w.now a.0, tt) in
      let grows : drawn_in key.cells (The u.now) ≤ drawn_in key.cells (The w.now) = omega (arith, more) in
      let one = kept_name u.rule.law w.rule.law (keeps u w a.0) grows c l in
      let rest = names_stay w ws a.1 c (omega (arith, l, grows)) in
      (rest.0, rest.1 ∙ one)

  -- what a cell is, by the list of the moment
  cell_inside : (u : Ruled program key) (c : ℕ) (r : Reference) → IsCell u.rule.law.born c r
      → c < drawn_in key.cells (The u.now)
  cell_inside u c r e = subst (λ k. c < k) u.rule.law.births.all (inside u.rule.law.born c r e)

  name_is : (u : Ruled program key) (c : ℕ) (r : Reference) → IsCell u.rule.law.born c r → named u c ≡ r.name
  name_is u c r e = ap name_of (index_is u.rule.law.born c _ r e)

  module _ (u : Ruled program key) (later : List (Ruled program key)) (a : AreAskedMoments program key u later) where
    abbrev end : Ruled program key
    end = last_moment program key u later

    same_name : (n : ℕ) (r s : Reference) → IsCell u.rule.law.born n r → IsCell end.rule.law.born n s
        → s.name ≡ r.name
    same_name n r s e f = sym (name_is end n s f) ∙ ((names_stay u later a n (cell_inside u n r e)).1 ∙ name_is u n r e)

    module _ (id : ℕ) (v : View B) (at : get_elem? u.now.views id ≡ some v) where
      so : IsSo (program key.strict key.root.value) key.cells (The u.now) u.rule.law (knowing_of v)
      so = knows_so program key u.now u.rule id v at

      names_are : (c : ℕ) (r : Reference) → IsCell v.born c r
          → (s : Reference) × IsCell end.rule.law.born c s × (s.name ≡ r.name)
      names_are c r e =
          let here = begins_at v.born u.rule.law.born so.begins c r e in
          let then = names_stay u later a c (cell_inside u c r here) in
          let is = cell_born end.rule.law c then.0 in
          (reference_of end.rule.law.born c, is, same_name c r (reference_of end.rule.law.born c) here is)

      value_is : (f : Filled) → IsIn f v.filled → (tag_in (The end.now) f.cell ≡ tag_of f.entry)
          × BitsSay end.rule.law.born f.entry (bits_in (The end.now) f.cell)
      value_is f i =
          let h = so.filled f i in
          let some_tag : tag_in (The u.now) f.cell ≢ 0 = λ z. tag_some f.entry (sym h.tag_is ∙ z) in
          let stay = values_for_good B program key u later (plain_moments u later a) f.cell some_tag in
          let there = end.rule.law.meaning.entries f.cell (λ z. some_tag (sym stay.0 ∙ z)) in (
            stay.0 ∙ h.tag_is,
            same_bits u.rule.law.born end.rule.law.born (bits_in (The end.now) f.cell) f.entry there.0
                (same_name (bits_in (The end.now) f.cell)) (sym there.1.tag_is ∙ (stay.0 ∙ h.tag_is))
                (subst (BitsSay u.rule.law.born f.entry) (sym stay.1) h.written.bits_say) there.1.written.bits_say,
          )

      tables : IsTheTables end.rule.law v
      tables = record { names = names_are; values = value_is }

      module _ (other : ℕ) (w : View B) (there : get_elem? end.now.views other ≡ some w) (c d : ℕ) (r s : Reference)
          (e : IsCell v.born c r) (f : IsCell w.born d s) where
        abbrev then : Reference
        then = (names_are c r e).0

        then_is : IsCell end.rule.law.born c then
        then_is = (names_are c r e).1

        other_is : IsCell end.rule.law.born d s
        other_is = begins_at w.born end.rule.law.born
            (knows_so program key end.now end.rule other w there).begins d s f

        alike : (c ≡ d) ↔ (r.name ≡ s.name)
        alike = (
          (λ q. sym (names_are c r e).2
              ∙ ap name_of (some-injective then s
              (sym (subst (λ k. IsCell end.rule.law.born k then) q then_is) ∙ other_is))),
          (λ q. born_apart end.rule.law c d then s then_is other_is ((names_are c r e).2 ∙ q)),
        )

pub seats_know_for_good : (B : Type 0) → SeatsKnowForGood B
seats_know_for_good B program key u later a id v at = tables program key u later a id v at

pub seats_number_alike : (B : Type 0) → SeatsNumberAlike B
seats_number_alike B program key u later a id other v w at there c d r s e f =
    alike program key u later a id v at other w there c d r s e f

pub merged_seats_agree : (B : Type 0) → MergedSeatsAgree B
merged_seats_agree B program key u w m = (
  tables program key u (w ∷ []) (inr (inr m), tt) m.merge.id m.merge.view m.merge.at,
  tables program key u (w ∷ []) (inr (inr m), tt) m.merge.other m.merge.taken m.merge.other_at,
)
