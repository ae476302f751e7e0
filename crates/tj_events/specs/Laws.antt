-- The laws of the core.
use Rattle.std.specs.Prelude.{◌≡◌, ℕ, List, ◌∷◌, length, Option, Some, None, Contains}
use Rattle.tj_base.specs.declared.cell.CellId.{CellId}
use Rattle.tj_events.specs.declared.event.Event.{Event}
use Rattle.tj_events.specs.declared.event.Event.TheVariants.{Make, Fork, Hand, Close, Raise, Publish, LoadOthers}
use Rattle.tj_events.specs.declared.event.Event.TheVariants.{LoadCount, ReadOwner, ReadWait, ReadOwnerAgain, Alarm}
use Rattle.tj_events.specs.declared.event.Event.TheVariants.{Settle, Unwait, Lower}
use Rattle.tj_events.specs.CoreState.{CoreState, Cells, root_alone}
use Rattle.tj_events.specs.Events.{Allowed, after, Walks, IsOpen}
use Rattle.tj_events.specs.Runs.{AreAllowed, after_all, IsLegalRun}
use Rattle.tj_events.specs.WaitGraph.{IsCycle, IsOnCycle, IsOnCycleOf}
use Rattle.tj_events.specs.declared.walk.Walker.{Walker}
use Rattle.tj_events.specs.Facts.{IsOnCourse}
use Rattle.tj_events.specs.CoreFacts.{CoreFacts}

-- one allowed event keeps the facts
abbrev pub EventKeepsFacts : Type 0
EventKeepsFacts = (N : ℕ) (s : CoreState) (e : Event) → CoreFacts s → Allowed N s e → CoreFacts (after s e)

-- the state with the root alone meets the facts
abbrev pub StartMeetsFacts : Type 0
StartMeetsFacts = CoreFacts root_alone

-- a legal run ends in a state that meets the facts
abbrev pub LegalRunsMeetFacts : Type 0
LegalRunsMeetFacts = (N : ℕ) (es : List Event) → IsLegalRun N es → CoreFacts (after_all root_alone es)

-- a walk that is on course is open
abbrev pub OnCourseIsOpen : Type 0
OnCourseIsOpen = (cells : Cells) (n p : ℕ) (w : Walker) → IsOnCourse cells n p w w.last → IsOpen w

-- a task settles only where no cycle through it stood just after it had published
abbrev pub SettlesOffCycles : Type 0
SettlesOffCycles =
    (N : ℕ) (s : CoreState) (t p : CellId) (es : List Event)
    → CoreFacts s
    → AreAllowed N s (Publish t p ∷ es)
    → Allowed N (after_all s (Publish t p ∷ es)) (Settle t)
    → ¬ IsOnCycle (after s (Publish t p)).cells t.0

-- a standing cycle stands for good, with as many tasks
abbrev pub CyclesStand : Type 0
CyclesStand =
    (N : ℕ) (s : CoreState) (es : List Event)
    → CoreFacts s
    → AreAllowed N s es
    → (t n : ℕ)
    → IsOnCycleOf s.cells t n
    → IsOnCycleOf (after_all s es).cells t n

-- the task that acts in an event
abbrev pub actor : Event → Option ℕ
actor (Make t) = Some t.0
actor (Fork t) = Some t.0
actor (Hand t p c) = Some t.0
actor (Close t p) = Some t.0
actor (Raise t) = Some t.0
actor (Publish t p) = Some t.0
actor (LoadOthers t) = Some t.0
actor (LoadCount t) = Some t.0
actor (ReadOwner t) = Some t.0
actor (ReadWait t) = Some t.0
actor (ReadOwnerAgain t) = Some t.0
actor (Alarm t) = Some t.0
actor (Settle t) = Some t.0
actor (Unwait t) = Some t.0
actor Lower = None

-- exactly one event of t is allowed
pub record HasOneEvent (N : ℕ) (s : CoreState) (t : ℕ) : Type 0 where
  pub event : Event
  pub its_own : actor event ≡ Some t
  pub is_allowed : Allowed N s event
  pub only : (e : Event) → actor e ≡ Some t → Allowed N s e → e ≡ event

-- in a state that meets the facts a walking task has exactly one allowed event
abbrev pub WalkersHaveOneEvent : Type 0
WalkersHaveOneEvent =
    (N : ℕ) (s : CoreState) (t : ℕ) → CoreFacts s → Walks s t (λ c way w. Unit {0}) → HasOneEvent N s t

-- each task of a standing cycle is on a cycle of that many tasks
abbrev pub CyclesReturn : Type 0
CyclesReturn =
    (cells : Cells) (tasks : List ℕ) (t : ℕ)
    → IsCycle cells tasks
    → Contains tasks t
    → IsOnCycleOf cells t (length tasks)

-- the tasks of a standing cycle from t on are one list
abbrev pub CyclesAreOne : Type 0
CyclesAreOne = (cells : Cells) (t : ℕ) (us vs : List ℕ) → IsCycle cells (t ∷ us) → IsCycle cells (t ∷ vs) → us ≡ vs

-- a task that is on a cycle of n tasks is the first of one
abbrev pub ReturnsAreCycles : Type 0
ReturnsAreCycles =
    (cells : Cells) (t n : ℕ)
    → IsOnCycleOf cells t n
    → (ts : List ℕ) × IsCycle cells (t ∷ ts) × (length (t ∷ ts) ≡ n)
