-- The stage of a task as the core answers it.
use Rattle.std.specs.Prelude.{Option, Some, None}
use Rattle.tj_core.specs.declared.stage.Stage as shown
use Rattle.tj_core.specs.declared.stage.Stage.TheVariants as stages
use Rattle.tj_events.specs.CoreState.{CellStage, promise, fresh, running, raised, waits, walks, parked, alarmed, ended}

-- the answer on a cell at this stage: none for a promise, as a cell is that isn't there
abbrev pub stage_shown : CellStage → Option shown.Stage
stage_shown promise = None
stage_shown fresh = Some stages.Fresh
stage_shown running = Some stages.Running
stage_shown raised = Some stages.Raised
stage_shown (waits c way (walks w)) = Some stages.Walking
stage_shown (waits c way parked) = Some stages.Parked
stage_shown (waits c way alarmed) = Some stages.Alarmed
stage_shown ended = Some stages.Ended
