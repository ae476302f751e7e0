-- What one allowed event leaves as it is, in each state that meets the facts.
use Rattle.std.specs.Prelude.{◌≡◌, ◌≢◌, ℕ, ◌<◌, List, Some}
use Rattle.tj_events.specs.declared.event.Event.{Event}
use Rattle.tj_events.specs.declared.walk.Way.{Way}
use Rattle.tj_events.specs.CoreState.{alarmed, waits, CoreState, stage}
use Rattle.tj_events.specs.Events.{Allowed, after}
use Rattle.tj_events.specs.WaitGraph.{IsCycle, IsOnCycleOf}
use Rattle.tj_events.specs.Facts.{Watches}
use Rattle.tj_events.specs.CoreFacts.{CoreFacts}
use Rattle.tj_events.specs.Laws.{actor}

-- a standing cycle stands after the event, with the same tasks
abbrev pub EventKeepsCycles : Type 0
EventKeepsCycles =
    (N : ℕ) (s : CoreState) (e : Event) (tasks : List ℕ)
    → CoreFacts s
    → Allowed N s e
    → IsCycle s.cells tasks
    → IsCycle (after s e).cells tasks

-- the event of one task leaves every other task at its stage
abbrev pub EventLeavesOthers : Type 0
EventLeavesOthers =
    (N : ℕ) (s : CoreState) (e : Event) (t : ℕ)
    → CoreFacts s
    → Allowed N s e
    → t < s.count
    → actor e ≢ Some t
    → stage (after s e).cells t ≡ stage s.cells t

-- a task that has alarmed stays alarmed, on the same cell
abbrev pub EventKeepsAlarms : Type 0
EventKeepsAlarms =
    (N : ℕ) (s : CoreState) (e : Event) (t c : ℕ) (way : Way)
    → CoreFacts s
    → Allowed N s e
    → stage s.cells t ≡ waits c way alarmed
    → stage (after s e).cells t ≡ waits c way alarmed

-- t is on a cycle of n tasks, and has alarmed or is on course
pub record WatchesItsCycle (s : CoreState) (t n : ℕ) : Type 0 where
  pub on_cycle : IsOnCycleOf s.cells t n
  pub watches : Watches s.cells n (stage s.cells t)

-- a task that watches its cycle goes on to, whoever acts
abbrev pub EventKeepsWatches : Type 0
EventKeepsWatches =
    (N : ℕ) (s : CoreState) (e : Event) (t n : ℕ)
    → CoreFacts s
    → Allowed N s e
    → WatchesItsCycle s t n
    → WatchesItsCycle (after s e) t n
