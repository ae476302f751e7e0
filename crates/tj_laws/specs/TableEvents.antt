-- What the events do once that the calls of a run from a new table show.
use Rattle.std.specs.Prelude.{◌≡◌, ◌≢◌, ℕ, Bool, List, ◌∷◌, ◌++◌, Some}
use Rattle.tj_base.specs.declared.cell.CellId.{CellId}
use Rattle.tj_body.specs.Programs.{Program}
use Rattle.tj_events.specs.declared.event.Event.{Event}
use Rattle.tj_events.specs.declared.event.Event.TheVariants.{Close, Alarm, Unwait}
use Rattle.tj_events.specs.declared.walk.Way.{Way}
use Rattle.tj_events.specs.Laws.{actor}
use Rattle.tj_words.specs.declared.table.Key.{Key}
use Rattle.tj_words.specs.CallLaws.CallRuns.{AreAskedMoments, AreShown, joined}
use Rattle.tj_words.specs.CallLaws.RestedRuns.{Ruled}
use Rattle.tj_laws.specs.Closes.{HasSettled}
use Rattle.tj_runs.specs.Moments.{IsNew}

-- no cell is closed twice among these events
abbrev pub AreClosedOnce : List Event → Type 0
AreClosedOnce es = (before between later : List Event) (t u p : CellId)
    → es ≢ before ++ Close t p ∷ (between ++ Close u p ∷ later)

-- the wait that an Unwait clears has settled before
abbrev pub AreClearedSettled : List Event → Type 0
AreClearedSettled es = (before later : List Event) (t : CellId) → es ≡ before ++ Unwait t ∷ later
    → (c : ℕ) × (way : Way) × HasSettled t c way before

-- no task makes an event after its alarm
abbrev pub AreAlarmsLast : List Event → Type 0
AreAlarmsLast es = (before between later : List Event) (t : CellId) (e : Event)
    → es ≡ before ++ Alarm t ∷ (between ++ e ∷ later) → actor e ≢ Some t.0

-- in each run from a new table on this is so of the events that its steps show, in their order
abbrev pub EventsAreOnce : Type 0 → Type 0
EventsAreOnce B = (program : Bool → B → Program B) (key : Key B) (u : Ruled program key)
    (later : List (Ruled program key)) → IsNew program key u → (a : AreAskedMoments program key u later)
    → (shown : List (List Event)) × AreShown program key u later a shown × AreClosedOnce (joined shown)
    × AreClearedSettled (joined shown) × AreAlarmsLast (joined shown)
