-- What a core shows.
use Rattle.std.specs.Prelude.{◌≡◌, ℕ, suc}
use Rattle.tj_events.specs.declared.event.Event.{Event}
use Rattle.tj_core.specs.declared.plain_core.Core.{Core}
use Rattle.tj_events.specs.CoreState.{CoreState}
use Rattle.tj_events.specs.Events.{Allowed, after}
use Rattle.tj_core.specs.Checker.Loads.{loads_after}
use Rattle.tj_core.specs.Inner.Machine.{state_of, limit_of, loads_of}

-- the state of a run
abbrev pub core_state : Core → CoreState
core_state core = state_of core.machine

-- the most cells of a run
abbrev pub core_limit : Core → ℕ
core_limit core = limit_of core.machine

-- the loads of a task's last walk
abbrev pub core_loads : Core → ℕ → ℕ
core_loads core = loads_of core.machine

-- how many events were applied
abbrev pub core_applied : Core → ℕ
core_applied core = core.applied

-- the event was allowed, and the state and the loads are those after it
pub record Applies (old : Core) (e : Event) (new : Core) : Type 0 where
  pub allowed : Allowed (core_limit old) (core_state old) e
  pub state : core_state new ≡ after (core_state old) e
  pub loads : (t : ℕ) → core_loads new t ≡ loads_after (core_loads old) e t
  pub limit : core_limit new ≡ core_limit old
  pub applied : core_applied new ≡ suc (core_applied old)

-- nothing has changed
pub record IsSame (old new : Core) : Type 0 where
  pub state : core_state new ≡ core_state old
  pub loads : (t : ℕ) → core_loads new t ≡ core_loads old t
  pub limit : core_limit new ≡ core_limit old
  pub applied : core_applied new ≡ core_applied old
