-- A step of a walk, which reads what is so, is an event of the walker.
use Rattle.std.proofs.Common.{◌≡◌, ℕ, ◌<◌, ◌≤◌, List, length, set, get_or, Option, refl, sym, ap, ◌∙◌, subst, arith}
use Rattle.tj_base.specs.declared.cell.CellId.{CellId}
use Rattle.tj_core.specs.declared.births.TheConstants.{MAX_CORE_CELLS}
use Rattle.tj_core.specs.declared.slot.Slot.{Slot}
use Rattle.tj_core.specs.declared.walk_step.WalkStep.{WalkStep}
use Rattle.tj_core.specs.declared.walk_step.WalkStep.TheVariants.{Others, Count, Owner, Wait, Again}
use Rattle.tj_base.specs.Puts.{put}
use Rattle.tj_events.specs.CoreState.{CellStage, CoreState, owner, stage, present}
use Rattle.tj_events.specs.Events.{Allowed, after, Walks, staged, restage, walked, MayReadOwner, MayReadWait, MayReadAgain}
use Rattle.tj_events.specs.Events.{others_read, count_read, owner_read, wait_read, wait_found, owner_again}
use Rattle.tj_core.specs.Checker.Loads.{loads_after}
use Rattle.tj_core.specs.Inner.Columns.{loads_in}
use Rattle.tj_core.specs.Inner.WalkSteps.{event_of, IsSoNow, MayStep, wait_heard, stage_by, loads_by, HasRoom}
use Rattle.tj_core.proofs.Columns.ColumnLists.{walked_same, loads_stay, loads_more}

-- a state with another stage of t depends on that stage alone
restage_same : (s : CoreState) (t : ℕ) (f g : CellStage → CellStage)
    → f (stage s.cells t) ≡ g (stage s.cells t) → restage s t f ≡ restage s t g
restage_same s t f g e = λ i. record {
  count = s.count;
  cells = put s.cells t (staged (e i) (s.cells t));
  others = s.others;
  cleared = s.cleared;
}

module _ (N : ℕ) (s : CoreState) (task : CellId) where
  -- the event is allowed exactly where the step is the next one of the walk
  is_event : (step : WalkStep) → Allowed N s (event_of task step) ≡ Walks s task.0 (λ c. MayStep task.0 step)
  is_event (Others n) = refl
  is_event step = refl

  pub may_step : (step : WalkStep) → Allowed N s (event_of task step) → Walks s task.0 (λ c. MayStep task.0 step)
  may_step step = subst (λ A. A) (is_event step)

  pub step_allowed : (step : WalkStep) → Walks s task.0 (λ c. MayStep task.0 step) → Allowed N s (event_of task step)
  step_allowed step = subst (λ A. A) (sym (is_event step))

  -- the state after the step is that after the event
  pub after_step : (step : WalkStep) → IsSoNow s task.0 step
      → Walks s task.0 (λ c way w. MayStep task.0 step way w)
      → restage s task.0 (stage_by step) ≡ after s (event_of task step)
  after_step (Others n) now may = λ i. restage s task.0 (walked (λ c w. others_read (now i) w))
  after_step (Count n) now may = λ i. restage s task.0 (walked (λ c w. count_read (now i) w))
  after_step (Owner o) now may =
      restage_same s task.0 (stage_by (Owner o)) (walked (λ c w. owner_read (owner s.cells (present c w.trail)) w))
      (walked_same (stage s.cells task.0) (λ c w. owner_read o w)
      (λ c w. owner_read (owner s.cells (present c w.trail)) w)
      (λ c way w. MayReadOwner w) may (λ c way w e h. ap (λ (q : Option ℕ). owner_read q w) (now c way w e)))
  after_step (Wait o) now may =
      restage_same s task.0 (stage_by (Wait o)) (walked (λ c w. wait_read s.cells w w.last))
      (walked_same (stage s.cells task.0) (λ c w. wait_heard o w w.last) (λ c w. wait_read s.cells w w.last)
      (λ c way w. MayReadWait task.0 w) may (λ c way w e h. ap (wait_heard o w) h.1
      ∙ (ap (λ (q : Option ℕ). wait_found h.0 q w) (now c way w e h.0 h.1) ∙ sym (ap (wait_read s.cells w) h.1))))
  after_step (Again o) now may =
      restage_same s task.0 (stage_by (Again o))
      (walked (λ c w. owner_again (owner s.cells (present c w.trail)) w w.last))
      (walked_same (stage s.cells task.0) (λ c w. owner_again o w w.last)
      (λ c w. owner_again (owner s.cells (present c w.trail)) w w.last)
      (λ c way w. MayReadAgain w) may (λ c way w e h. ap (λ (q : Option ℕ). owner_again q w w.last) (now c way w e)))
  after_step step now may = refl

  -- a count that is so now is within the trail's room
  pub step_has_room : (step : WalkStep) (limit room : ℕ)
      → 0 < s.count → s.count ≤ limit → limit ≤ MAX_CORE_CELLS → limit ≤ room → IsSoNow s task.0 step → HasRoom room step
  step_has_room (Count n) limit room a b c d now = let e : n ≡ s.count = now in (omega arith, omega arith, omega arith)
  step_has_room step limit room a b c d now = tt

-- and so are the loads
pub step_loads : (slots : List Slot) (task : CellId) (x y : Slot) (step : WalkStep)
    → task.0 < length slots → x ≡ get_or slots task.0 x → y.loads ≡ loads_by step x.loads
    → (c : ℕ) → loads_in (set slots task.0 y) c ≡ loads_after (loads_in slots) (event_of task step) c
step_loads slots task x y (Owner o) h is e = loads_more slots task.0 x y h is e
step_loads slots task x y (Wait o) h is e = loads_more slots task.0 x y h is e
step_loads slots task x y (Again o) h is e = loads_more slots task.0 x y h is e
step_loads slots task x y step h is e = loads_stay slots task.0 x y h is e
