-- What the checker keeps of a cell's stage: a stage of a slot, as the stage of the core state.
use Rattle.std.specs.Prelude.{ℕ, List, reverse}
use Rattle.tj_events.specs.declared.walk.LastRead.{LastRead}
use Rattle.tj_events.specs.declared.walk.LastRead.TheVariants.{Published, SawOthers, Counted, SawOwner, SawWait}
use Rattle.tj_events.specs.declared.walk.LastRead.TheVariants.{Changed}
use Rattle.tj_events.specs.declared.walk.TrailLink.{TrailLink}
use Rattle.tj_core.specs.declared.slot_stage.Progress.{Progress}
use Rattle.tj_core.specs.declared.slot_stage.Progress.TheVariants.{Walking, Parked, Alarmed}
use Rattle.tj_core.specs.declared.slot_stage.SlotStage.{SlotStage}
use Rattle.tj_core.specs.declared.slot_stage.SlotStage.TheVariants.{Promise, Fresh, Running, Raised, Waiting, Ended}
use Rattle.tj_events.specs.CoreState.{WaitStage, walks, parked, alarmed, CellStage, promise, fresh, running, raised}
use Rattle.tj_events.specs.CoreState.{waits, ended}

-- what a task that waits does, with the links of its trail from the oldest on, its bound and its loads
abbrev pub wait_stage_of : List TrailLink → ℕ → ℕ → Progress → WaitStage
wait_stage_of links bound loads (Walking last) =
    walks (record { trail = reverse links; bound = bound; loads = loads; last = last })
wait_stage_of links bound loads Parked = parked
wait_stage_of links bound loads Alarmed = alarmed

-- the stage that a slot's stage shows, with these links, this bound and these loads
abbrev pub cell_stage : List TrailLink → ℕ → ℕ → SlotStage → CellStage
cell_stage links bound loads Promise = promise
cell_stage links bound loads Fresh = fresh
cell_stage links bound loads Running = running
cell_stage links bound loads Raised = raised
cell_stage links bound loads (Waiting c way p) = waits c way (wait_stage_of links bound loads p)
cell_stage links bound loads Ended = ended

-- how many owners more may be passed after this read before the bound is looked at again
abbrev pub passes_after : LastRead → ℕ
passes_after Counted = 1
passes_after (SawOwner o) = 1
passes_after (SawWait u o) = 1
passes_after last = 0

-- the loads of a walk up to this read since the last owner was passed
abbrev pub loads_after_pass : LastRead → ℕ
loads_after_pass (SawOwner o) = 1
loads_after_pass (SawWait u o) = 2
loads_after_pass Changed = 3
loads_after_pass last = 0

-- whether the walk has read its bound, as 0 or 1
abbrev pub bound_read : LastRead → ℕ
bound_read Published = 0
bound_read (SawOthers n) = 0
bound_read last = 1

-- the same of a slot's stage: only a walk may pass owners
abbrev pub stage_passes : SlotStage → ℕ
stage_passes (Waiting c way (Walking last)) = passes_after last
stage_passes stage = 0

-- the most loads since the last owner was passed
abbrev pub stage_loads : SlotStage → ℕ
stage_loads (Waiting c way (Walking last)) = loads_after_pass last
stage_loads stage = 3

-- a slot's stage of a cell whose task doesn't wait
abbrev pub IsIdle : SlotStage → Type 0
IsIdle (Waiting c way p) = ⊥
IsIdle stage = Unit {0}

-- 0 before a walk has read its bound, else 1
abbrev pub stage_bound : SlotStage → ℕ
stage_bound (Waiting c way (Walking last)) = bound_read last
stage_bound stage = 1
