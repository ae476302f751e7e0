-- What the checker's machine shows, and what an event does to it.
use Rattle.std.specs.Prelude.{◌≡◌, ℕ, ◌<◌, [], length}
use Rattle.tj_events.specs.declared.event.Event.{Event}
use Rattle.tj_core.specs.declared.machine.Machine.{Machine}
use Rattle.tj_core.specs.declared.slot_stage.SlotStage.{SlotStage}
use Rattle.tj_events.specs.CoreState.{CoreState}
use Rattle.tj_core.specs.Inner.SlotStages.{cell_stage}
use Rattle.tj_events.specs.Events.{Allowed, after, IsRunning, with_new}
use Rattle.tj_core.specs.Checker.Loads.{loads_after}
use Rattle.tj_core.specs.Inner.Columns.{state_in, loads_in}

-- the state that a machine keeps
abbrev pub state_of : Machine → CoreState
state_of m = state_in m.births.births.items m.births.made.items m.owners.owners.items m.slots.items m.others m.cleared

-- the most cells of its run
abbrev pub limit_of : Machine → ℕ
limit_of m = m.births.limit

-- the loads of a task's last walk
abbrev pub loads_of : Machine → ℕ → ℕ
loads_of m = loads_in m.slots.items

-- the event was allowed, and was applied
pub record Accepts (old : Machine) (e : Event) (new : Machine) : Type 0 where
  pub allowed : Allowed (limit_of old) (state_of old) e
  pub state : state_of new ≡ after (state_of old) e
  pub loads : (t : ℕ) → loads_of new t ≡ loads_after (loads_of old) e t
  pub limit : limit_of new ≡ limit_of old

-- the event isn't allowed, and nothing has changed
pub record Refuses (old : Machine) (e : Event) (new : Machine) : Type 0 where
  pub illegal : ¬ Allowed (limit_of old) (state_of old) e
  pub state : state_of new ≡ state_of old
  pub loads : (t : ℕ) → loads_of new t ≡ loads_of old t
  pub limit : limit_of new ≡ limit_of old

-- nothing that is shown has changed
pub record IsUnchanged (old new : Machine) : Type 0 where
  pub state : state_of new ≡ state_of old
  pub loads : (t : ℕ) → loads_of new t ≡ loads_of old t
  pub limit : limit_of new ≡ limit_of old

-- a cell has changed, and the lists are as long as before
pub record Changes (old new : Machine) : Type 0 where
  pub limit : limit_of new ≡ limit_of old
  pub slots : length new.slots.items ≡ length old.slots.items
  pub owners : length new.owners.owners.items ≡ length old.owners.owners.items

-- t, which runs, has made one cell more with this owner and stage
pub record Adds (old : Machine) (t owner : ℕ) (stage : SlotStage) (new : Machine) : Type 0 where
  pub runs : IsRunning (state_of old) t
  pub fewer : (state_of old).count < limit_of old
  pub state : state_of new ≡ with_new (state_of old) t owner (cell_stage [] 0 0 stage)
  pub loads : (t : ℕ) → loads_of new t ≡ loads_of old t
  pub limit : limit_of new ≡ limit_of old
