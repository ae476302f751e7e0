-- A wait is cleared, and OTHERS is lowered after it: both keep the facts.
use Rattle.std.proofs.Common.{◌≡◌, ℕ, ◌+◌, ◌-◌, ◌<◌, Some, refl, sym, ap, ◌∙◌, subst, inr, arith, le_refl}
use Rattle.tj_base.specs.declared.cell.CellId.{CellId}
use Rattle.tj_events.specs.declared.event.Event.TheVariants.{Unwait, Lower}
use Rattle.tj_events.specs.CoreState.{running, CoreState, stage, wait, wait_of, Lives, IsClosed}
use Rattle.tj_events.specs.Events.{Allowed, after, raised_by}
use Rattle.tj_events.specs.CoreFacts.{CoreFacts}
use Rattle.tj_events.proofs.Graph.Watches.{same_goes_on, IsKept}
use Rattle.tj_events.proofs.OneCell.CellChanges.{with_cell, calmly_kept, kept_once}
use Rattle.tj_events.proofs.OneCell.RunChanges.{at_stage, stage_fits}

module _ (s : CoreState) (x : CoreFacts s) where
  -- Unwait keeps the facts: its cell is closed, so the task is on no cycle
  pub keeps_unwait : (N : ℕ) (task : CellId) → Allowed N s (Unwait task) → IsKept s (after s (Unwait task))
  keeps_unwait N task (c, way, is, free) =
      let t = task.0 in
      let a = at_stage s x t (s.cells t).made running in
      let cleared = s.cleared + raised_by (stage s.cells t) in
      let closed : (w : ℕ) → wait s.cells t ≡ Some w → IsClosed s.count s.cells w = λ w e.
      let e' : Some c ≡ Some w = sym (ap wait_of is) ∙ e in
      let q : c ≡ w = cc in
      subst (IsClosed s.count s.cells) q (x.places.waits_there t c (ap wait_of is), free) in
      kept_once s (with_cell s t a s.count s.others cleared)
      (calmly_kept s x t a s.count s.others cleared
      (stage_fits s x t (s.cells t).made running s.others cleared (le_refl (s.cells t).made)
      (subst Lives (sym is) tt) tt tt (λ w e. inr (closed w e)) (omega arith))
      refl closed)

  -- Lower keeps the facts
  pub keeps_lower : 0 < s.cleared → IsKept s (after s Lower)
  keeps_lower pos = (
    record {
      places = x.places;
      makers = x.makers;
      owners = x.owners;
      along_waits = x.along_waits;
      others_count = let q = x.others_count in omega arith;
      trail = x.trail;
      last_reads = x.last_reads;
      loads = x.loads;
      others_read = x.others_read;
      last_closer = x.last_closer;
      alarm = x.alarm;
    },
    (s, same_goes_on s s.others s.cleared, same_goes_on s (s.others - 1) (s.cleared - 1)),
  )
