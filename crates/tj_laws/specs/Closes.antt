-- What the events of a legal run do once: a cell is closed once, by its owner; a wait that is cleared has settled
-- before; a task alarms once, by its last event.
use Rattle.std.specs.Prelude.{◌≡◌, ◌≢◌, ℕ, List, [], ◌∷◌, ◌++◌, Some}
use Rattle.tj_base.specs.declared.cell.CellId.{CellId}
use Rattle.tj_events.specs.declared.event.Event.{Event}
use Rattle.tj_events.specs.declared.event.Event.TheVariants.{Close, Alarm, Settle, Unwait}
use Rattle.tj_events.specs.declared.walk.Way.{Way}
use Rattle.tj_events.specs.CoreState.{parked, waits, stage}
use Rattle.tj_events.specs.Events.{Owns, MaySettle, WalksAt}
use Rattle.tj_events.specs.Laws.{actor}
use Rattle.tj_events.specs.RunLaws.{run_to}
use Rattle.tj_events.specs.Runs.{IsLegalRun}

-- who closes a cell is its owner at that moment
abbrev pub ClosersOwn : Type 0
ClosersOwn = (N : ℕ) (before : List Event) (t p : CellId) → IsLegalRun N (before ++ Close t p ∷ [])
    → Owns (run_to before) t.0 p.0

-- a cell is closed at most once, whoever closes it
abbrev pub ClosesAreOnce : Type 0
ClosesAreOnce = (N : ℕ) (before between : List Event) (t u p : CellId)
    → ¬ IsLegalRun N (before ++ Close t p ∷ (between ++ Close u p ∷ []))

-- none of the events is one of t
abbrev pub AreOfOthers : ℕ → List Event → Type 0
AreOfOthers t [] = Unit {0}
AreOfOthers t (e ∷ es) = (actor e ≢ Some t) × AreOfOthers t es

-- the last event of t is the Settle of its wait for c this way, which walked up to there
pub record HasSettled (t : CellId) (c : ℕ) (way : Way) (es : List Event) : Type 0 where
  pub before : List Event
  pub since : List Event
  pub is : es ≡ before ++ Settle t ∷ since
  pub walked : WalksAt (stage (run_to before).cells t.0) (λ d to w. (d ≡ c) × (to ≡ way) × MaySettle w)
  pub others : AreOfOthers t.0 since

-- a wait that is cleared is parked, and has settled before
abbrev pub UnwaitsHaveSettled : Type 0
UnwaitsHaveSettled = (N : ℕ) (es : List Event) (t : CellId) → IsLegalRun N (es ++ Unwait t ∷ [])
    → (c : ℕ) × (way : Way) × (stage (run_to es).cells t.0 ≡ waits c way parked) × HasSettled t c way es

-- a task makes no event after it has alarmed: so it alarms at most once
abbrev pub AlarmsAreLast : Type 0
AlarmsAreLast = (N : ℕ) (before between : List Event) (t : CellId) (e : Event)
    → IsLegalRun N (before ++ Alarm t ∷ (between ++ e ∷ [])) → actor e ≢ Some t.0
