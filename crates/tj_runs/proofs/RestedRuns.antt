-- Once a seat has loaded LIVE as 0, each call, split and merge leaves some seat that has, so LIVE stays 0. A seat to
-- which TAG is due would be lively, so none is written.
use Rattle.tj_words.proofs.Prelude.{AreMoments, Bool, IsCallStep, IsDue, IsSplit, List, OfSeat, Option, Program}
use Rattle.tj_words.proofs.Prelude.{Ruled, State, [], ap, arith, at_map, both, dite, get_elem?, inl, inr, last_moment}
use Rattle.tj_words.proofs.Prelude.{left_half, place_of, refl, right_half, set, some, some-injective, spent, subst}
use Rattle.tj_words.proofs.Prelude.{suc, sym, true, word, ℕ, ℕ_discrete, ⊎_elim, ◌||◌, ◌∙◌, ◌∷◌, ◌≡◌}
use Rattle.tj_record.specs.declared.record.Rec.{Rec}
use Rattle.tj_words.specs.declared.table.Key.{Key}
use Rattle.tj_words.specs.declared.view.View.{View}
use Rattle.tj_words.proofs.Lemmas.{of_seat_else, of_seat_here, of_seat_set}
use Rattle.tj_runs.proofs.CallStores.{step_stays}
use Rattle.tj_words.specs.CallLaws.RestedRuns.{IsMerge, IsTableStep, NoValueComes, RestStays, live_in, tag_at}
use Rattle.tj_words.proofs.Waiters.LiveSteps.{held_in_phase, lively_live}
use Rattle.tj_runs.proofs.CallViews.{leaves}
use Rattle.tj_words.proofs.Stores.SeatLists.{of_seat_snoc}
use Rattle.tj_words.specs.declared.offsets.Once.TheVariants as once
use Rattle.tj_words.proofs.Stores.TableWords as table_word

or_true : (b : Bool) → b || true ≡ true
or_true b = grind arith

module _ {B : Type 0} (program : Bool → B → Program B) (key : Key B) where
  abbrev Table : Type 0
  Table = State (Option (Rec B)) (View B)

  abbrev Rests : View B → Type 0
  Rests v = v.rested ≡ true

  -- some seat has loaded LIVE as 0, where these are the views
  abbrev HaveRested : List (View B) → Type 0
  HaveRested views = (j : ℕ) × OfSeat Rests views j

  call_rests : (s t : Table) → IsCallStep program key s t → HaveRested s.views → HaveRested t.views
  call_rests s t c r = let k = word s.words (place_of c.call) in
      subst (λ (z : Table). HaveRested z.views) (sym c.makes.after) (
        r.0,
        of_seat_set Rests s.views c.id r.0 c.seat.0 c.seat_after.0 c.makes.at
            (leaves (suc k) program key.cells c.call c.number k c.operands c.seat c.seat_after (λ d o e z. omega arith)
            c.told).0 r.1,
      )

  split_rests : (s t : Table) → IsSplit s t → HaveRested s.views → HaveRested t.views
  split_rests s t p r = subst (λ (z : Table). HaveRested z.views) (sym p.after) (
    r.0,
    of_seat_snoc Rests (set s.views p.id (left_half p.view)) (right_half p.view) r.0
        (of_seat_set Rests s.views p.id r.0 p.view (left_half p.view) p.at (λ h. h) r.1),
  )

  merge_rests : (s t : Table) → IsMerge s t → HaveRested s.views → HaveRested t.views
  merge_rests s t p r = subst (λ (z : Table). HaveRested z.views) (sym p.after)
      (dite (ℕ_discrete r.0 p.other)
      (λ e. (
        p.id,
        of_seat_else Rests first p.other p.id spent (λ q. p.apart (sym q))
            (of_seat_here Rests s.views p.id p.view now p.at (taken e)),
      ))
      (λ e. (
        r.0,
        of_seat_else Rests first p.other r.0 spent e
            (of_seat_set Rests s.views p.id r.0 p.view now p.at (λ h. ap (λ b. b || p.taken.rested) h) r.1),
      )))
    where
      now : View B
      now = both p.view p.taken

      first : List (View B)
      first = set s.views p.id now

      taken : r.0 ≡ p.other → Rests now
      taken e = let h = subst (OfSeat Rests s.views) e r.1 in
          let same = some-injective h.0 p.taken (sym h.1 ∙ p.other_at) in
          ap (λ b. p.view.rested || b) (ap (λ (u : View B). u.rested) (sym same) ∙ h.2) ∙ or_true p.view.rested

  step_rests : (s t : Table) → IsTableStep program key s t → HaveRested s.views → HaveRested t.views
  step_rests s t (inl c) r = call_rests s t c r
  step_rests s t (inr (inl p)) r = split_rests s t p r
  step_rests s t (inr (inr p)) r = merge_rests s t p r

  -- LIVE is 0 where some seat has loaded it so
  live_zero : (u : Ruled program key) → HaveRested u.now.views → live_in u.now ≡ 0
  live_zero u r = u.rule.law.live_count.stays_at_rest r.0 r.1.0.rested
      (at_map (λ (v : View B). v.rested) u.now.views r.0 r.1.0 r.1.1) r.1.2

  -- then TAG of no cell is due to a seat
  none_due : (u : Ruled program key) → HaveRested u.now.views → (id c : ℕ) (v : View B)
      → get_elem? u.now.views id ≡ some v → ¬ IsDue c once.Tag v.dues
  none_due u r id c v at due = let z = live_zero u r in
      let live = lively_live u.rule.law.live_count id v (at_map (λ (w : View B). w.tokens) u.now.views id v at)
      (held_in_phase u.rule.law.custody (omega arith) id v.tasks
      (at_map (λ (w : View B). w.tasks) u.now.views id v at))
      ((u.rule.seats id v at).backing.tags (record { cell = c; word = once.Tag }, due, refl)) in omega arith

  step_tags : (u : Ruled program key) (t : State (Option (Rec B)) (View B)) → IsTableStep program key u.now t
      → HaveRested u.now.views → (c : ℕ) → tag_at t c ≡ tag_at u.now c
  step_tags u t a r c = ⊎_elim (λ e. e)
      (λ p. absurd (none_due u r p.0.id c p.0.seat.0 p.0.makes.at p.3.due))
      (step_stays program key u.now t a (table_word.Written c once.Tag))

  all_stay : (u : Ruled program key) (later : List (Ruled program key)) → AreMoments program key u later
      → HaveRested u.now.views
      → HaveRested (last_moment program key u later).now.views
      × ((c : ℕ) → tag_at (last_moment program key u later).now c ≡ tag_at u.now c)
  all_stay u [] a r = (r, λ c. refl)
  all_stay u (w ∷ ws) a r = let others = all_stay w ws a.1 (step_rests u.now w.now a.0 r) in
      (others.0, λ c. others.1 c ∙ step_tags u w.now a.0 r c)

pub rest_stays : (B : Type 0) → RestStays B
rest_stays B program key u later a r = let h = all_stay program key u later a (r.0, (r.1, r.2, r.3)) in
    (live_zero program key (last_moment program key u later) h.0, h.1)

pub no_value_comes : (B : Type 0) → NoValueComes B
no_value_comes B program key u later a id c v at rested none =
    (all_stay program key u later a (id, (v, at, rested))).1 c ∙ none
