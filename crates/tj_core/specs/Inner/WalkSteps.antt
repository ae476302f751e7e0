-- One step of a walk, with what it reads: its event, where it is the next one, and what it makes of the walk.
use Rattle.std.specs.Prelude.{◌≡◌, ℕ, suc, ◌<◌, ◌≤◌, Option, Some}
use Rattle.tj_base.specs.declared.cell.CellId.{CellId}
use Rattle.tj_core.specs.declared.births.TheConstants.{MAX_CORE_CELLS}
use Rattle.tj_events.specs.declared.event.Event.{Event}
use Rattle.tj_events.specs.declared.event.Event.TheVariants as events
use Rattle.tj_events.specs.declared.walk.Way.{Way}
use Rattle.tj_events.specs.declared.walk.Walker.{Walker}
use Rattle.tj_events.specs.declared.walk.LastRead.{LastRead}
use Rattle.tj_events.specs.declared.walk.LastRead.TheVariants.{SawOwner}
use Rattle.tj_core.specs.declared.walk_step.WalkStep.{WalkStep}
use Rattle.tj_core.specs.declared.walk_step.WalkStep.TheVariants.{Others, Count, Owner, Wait, Again, Alarm, Settle}
use Rattle.tj_events.specs.CoreState.{parked, alarmed, CellStage, CoreState, owner, wait, present, IfWalks}
use Rattle.tj_events.specs.Events.{MayReadOthers, MayCount, MayReadOwner, MayReadWait, MayReadAgain, MayAlarm}
use Rattle.tj_events.specs.Events.{MaySettle, walked, walk_ended, others_read, count_read, owner_read, wait_found}
use Rattle.tj_events.specs.Events.{owner_again}

-- the event of the walker of t
abbrev pub event_of : CellId → WalkStep → Event
event_of t (Others n) = events.LoadOthers t
event_of t (Count n) = events.LoadCount t
event_of t (Owner o) = events.ReadOwner t
event_of t (Wait o) = events.ReadWait t
event_of t (Again o) = events.ReadOwnerAgain t
event_of t Alarm = events.Alarm t
event_of t Settle = events.Settle t

-- what the step of the walk of t reads is so now
abbrev pub IsSoNow : CoreState → ℕ → WalkStep → Type 0
IsSoNow s t (Others n) = n ≡ s.others
IsSoNow s t (Count n) = n ≡ s.count
IsSoNow s t (Owner o) = IfWalks s.cells t (λ c way w. o ≡ owner s.cells (present c w.trail))
IsSoNow s t (Wait o) = IfWalks s.cells t (λ c way w. (u : ℕ) → w.last ≡ SawOwner (Some u) → o ≡ wait s.cells u)
IsSoNow s t (Again o) = IfWalks s.cells t (λ c way w. o ≡ owner s.cells (present c w.trail))
IsSoNow s t Alarm = Unit {0}
IsSoNow s t Settle = Unit {0}

-- the step is the next one of a walk of t
abbrev pub MayStep : ℕ → WalkStep → Way → Walker → Type 0
MayStep t (Others n) way w = MayReadOthers way w
MayStep t (Count n) way w = MayCount way w
MayStep t (Owner o) way w = MayReadOwner w
MayStep t (Wait o) way w = MayReadWait t w
MayStep t (Again o) way w = MayReadAgain w
MayStep t Alarm way w = MayAlarm t w
MayStep t Settle way w = MaySettle w

-- the walker after it read that the owner that it has read waits for o
abbrev pub wait_heard : Option ℕ → Walker → LastRead → Walker
wait_heard o w (SawOwner (Some u)) = wait_found u o w
wait_heard o w last = w

-- the stage of a walker after the step
abbrev pub stage_by : WalkStep → CellStage → CellStage
stage_by (Others n) = walked (λ c w. others_read n w)
stage_by (Count n) = walked (λ c w. count_read n w)
stage_by (Owner o) = walked (λ c w. owner_read o w)
stage_by (Wait o) = walked (λ c w. wait_heard o w w.last)
stage_by (Again o) = walked (λ c w. owner_again o w w.last)
stage_by Alarm = walk_ended alarmed
stage_by Settle = walk_ended parked

-- the loads of the walk after the step: each read of an owner or of its wait is one
abbrev pub loads_by : WalkStep → ℕ → ℕ
loads_by (Owner o) loads = suc loads
loads_by (Wait o) loads = suc loads
loads_by (Again o) loads = suc loads
loads_by step loads = loads

-- a count that the step reads is one that the trail has room for
abbrev pub HasRoom : ℕ → WalkStep → Type 0
HasRoom room (Count n) = (0 < n) × (n ≤ MAX_CORE_CELLS) × (n ≤ room)
HasRoom room step = Unit {0}
