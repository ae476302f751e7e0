-- A seat with all lots holds each task that runs or walks: some seat does, and a seat with no lot holds none.
use Rattle.std.proofs.Common.{◌≡◌, ◌∙◌, ℕ, Bool, Some, None, arith, refl, sym, ap, subst, map}
use mathlib.Core.Logic.{dite}
use mathlib.Core.Option.{some, some-injective}
use native.Mathlib.Decide.{ℕ_discrete}
use lib.ListN.{get_elem?}
use Rattle.atomic_table.proofs.Lists.{at_map}
use Rattle.tj_base.specs.declared.cell.Sort.TheVariants as sort
use Rattle.tj_body.specs.Programs.{Program}
use Rattle.tj_words.specs.CallLaws.RestedRuns.{Ruled}
use Rattle.tj_words.specs.LawParts.Contents.{Contents}
use Rattle.tj_words.specs.LawParts.Custodies.{IsHeld, IsKept}
use Rattle.tj_words.specs.LawParts.Holding.{held_in}
use Rattle.tj_words.specs.LawParts.Lots.{all_lots}
use Rattle.tj_words.specs.Steps.StepEvents.{IsBegun}
use Rattle.tj_words.specs.declared.phase.Phase.{Phase}
use Rattle.tj_words.specs.declared.phase.Phase.TheVariants as phase
use Rattle.tj_words.specs.declared.phase.Walk.TheVariants as walk
use Rattle.tj_words.specs.declared.table.Key.{Key}
use Rattle.tj_words.specs.declared.view.Custody.{Custody}
use Rattle.tj_words.specs.declared.view.View.{View}
use Rattle.tj_words.proofs.Lemmas.{begun_there, none_some}
use Rattle.tj_words.proofs.Meaning.RestingStates.{map_back, no_lot_no_task, two_parts}
use Rattle.tj_words.proofs.Prelude.{home_of, phase_sort, sort_shown}
use Rattle.tj_laws.specs.Holders.{IsUnderWay, LoneSeatsHold}
use Rattle.tj_runs.specs.Moments.{contents_at}

module _ {B : Type 0} (program : Bool → B → Program B) (key : Key B) (u : Ruled program key) (id t : ℕ) (v : View B)
    (at : get_elem? u.now.views id ≡ some v) (lot : v.lot ≡ all_lots) where
  abbrev x : Contents B
  x = contents_at program key u

  -- a seat that holds the task is this one, since each other seat has no lot
  holds : IsHeld (u.rule.law.custody.holder t) → (k : Custody B) × (held_in v.tasks t ≡ Some k)
  holds h =
      let o = u.rule.law.custody.holders t h.0 h.1 in
      let w = map_back (λ (z : View B). z.tasks) u.now.views h.0 o.0 o.1 in
      by h.0 w.0 w.1 o.2.0 (ap (λ ks. held_in ks t) (w.2) ∙ o.2.1)
    where
      by : (j : ℕ) (w : View B) → get_elem? u.now.views j ≡ some w → (k : Custody B) → held_in w.tasks t ≡ Some k
          → (k : Custody B) × (held_in v.tasks t ≡ Some k)
      by j w e k has = dite (ℕ_discrete id j)
          (λ q. (
            k,
            ap (λ (z : View B). held_in z.tasks t)
                (some-injective v w (sym at ∙ (ap (get_elem? u.now.views) q ∙ e))) ∙ has,
          ))
          (λ q. absurd (none_some None k refl (sym (ap (λ ks. held_in ks t)
          (no_lot_no_task w (u.rule.seats j w e).within_lot
          (let l = u.rule.law.lots.all in
          let p = two_parts (map (λ (z : View B). z.lot) u.now.views) j id w.lot v.lot q
          (at_map (λ (z : View B). z.lot) u.now.views j w e) (at_map (λ (z : View B). z.lot) u.now.views id v at) in
          omega arith))) ∙ has)))

  kept : (p : Phase) → x.words.phase t ≡ p → IsBegun p → phase_sort p ≡ sort.Task
      → IsKept p (u.rule.law.custody.holder t) (home_of x t)
  kept p e b o = let h = begun_there u.rule.law t (subst IsBegun (sym e) b) in
      subst (λ z. IsKept z (u.rule.law.custody.holder t) (home_of x t)) e (u.rule.law.custody.tasks_kept t h.0
      (ap (λ z. sort_shown z (x.words.phase t)) h.1 ∙ (ap phase_sort e ∙ o)))

  lone_holds : (p : Phase) → x.words.phase t ≡ p → IsUnderWay p → (k : Custody B) × (held_in v.tasks t ≡ Some k)
  lone_holds phase.Running e h = holds (kept phase.Running e tt refl)
  lone_holds (phase.Waiting c way walk.Walking) e h = holds (kept (phase.Waiting c way walk.Walking) e tt refl)
  lone_holds (phase.Waiting c way walk.Parked) e h = absurd h
  lone_holds (phase.Waiting c way walk.Alarmed) e h = absurd h
  lone_holds p e h = absurd h

pub lone_seats_hold : (B : Type 0) → LoneSeatsHold B
lone_seats_hold B program key u id t v at lot h =
    lone_holds program key u id t v at lot ((contents_at program key u).words.phase t) refl h
