-- A slot of the checker, as what it shows of a cell.
use Rattle.std.specs.Prelude.{ℕ, List, reverse}
use Rattle.tj_core.specs.declared.slot.Slot.{Slot}
use Rattle.tj_events.specs.declared.walk.LastRead.{LastRead}
use Rattle.tj_events.specs.declared.walk.TrailLink.{TrailLink}
use Rattle.tj_events.specs.declared.walk.Walker.{Walker}
use Rattle.tj_events.specs.CoreState.{CellStage}
use Rattle.tj_core.specs.Inner.SlotStages.{cell_stage}

-- the stage that a slot shows
abbrev pub stage_of : Slot → CellStage
stage_of slot = cell_stage slot.trail.items slot.bound slot.loads slot.stage

-- the walker that a slot with these links, this bound and these loads shows after this read
abbrev pub walker : List TrailLink → ℕ → ℕ → LastRead → Walker
walker links bound loads last = record { trail = reverse links; bound = bound; loads = loads; last = last }
