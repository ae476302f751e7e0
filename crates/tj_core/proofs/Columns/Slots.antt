-- What a slot shows of a walk.
use Rattle.std.proofs.Common.{◌≡◌, ℕ, List, ap}
use Rattle.tj_events.specs.declared.walk.Way.{Way}
use Rattle.tj_events.specs.declared.walk.TrailLink.{TrailLink}
use Rattle.tj_events.specs.declared.walk.Walker.{Walker}
use Rattle.tj_events.specs.declared.walk.LastRead.{LastRead}
use Rattle.tj_core.specs.declared.slot_stage.Progress.TheVariants.{Walking}
use Rattle.tj_core.specs.declared.slot_stage.SlotStage.{SlotStage}
use Rattle.tj_core.specs.declared.slot_stage.SlotStage.TheVariants.{Waiting}
use Rattle.tj_events.specs.Events.{WalksAt}
use Rattle.tj_core.specs.Inner.Slots.{walker}
use Rattle.tj_core.specs.Inner.SlotStages.{cell_stage}

-- a slot at the stage of a walk shows that walk
pub walks_at : (links : List TrailLink) (bound loads : ℕ) (stage : SlotStage) (c : ℕ) (way : Way) (last : LastRead)
    (F : ℕ → Way → Walker → Type 0)
    → stage ≡ Waiting c way (Walking last)
    → F c way (walker links bound loads last)
    → WalksAt (cell_stage links bound loads stage) F
walks_at links bound loads stage c way last F e
    h = (c, way, walker links bound loads last, ap (cell_stage links bound loads) e, h)
