-- The text of judging: what the rules make of a list of events, one after the other.
use Rattle.std.specs.Prelude.{◌≡◌, ℕ, suc, Bool, true, false, ◌||◌, List, [], ◌∷◌, ◌++◌, Option, Some, None, codes, decimal}
use Rattle.std.specs.Prelude.{◌⊎◌}
use Rattle.std.specs.List.{flat_map}
use Rattle.tj_events.specs.declared.event.Event.{Event}
use Rattle.tj_events.specs.declared.event.Event.TheVariants.{Make, Fork, Hand, Close, Raise, Publish, LoadOthers}
use Rattle.tj_events.specs.declared.event.Event.TheVariants.{LoadCount, ReadOwner, ReadWait, ReadOwnerAgain, Alarm}
use Rattle.tj_events.specs.declared.event.Event.TheVariants.{Settle, Unwait, Lower}
use Rattle.tj_events.specs.declared.walk.LastRead.{LastRead}
use Rattle.tj_events.specs.declared.walk.LastRead.TheVariants.{Published, SawOthers, Counted, SawOwner, SawWait, Passed}
use Rattle.tj_events.specs.declared.walk.LastRead.TheVariants.{Changed}
use Rattle.tj_events.specs.CoreState.{Cells, CoreState, root_alone, wait}
use Rattle.tj_events.specs.Events.{Allowed, after, Walks}
use Rattle.tj_events.specs.WaitGraph.{IsCycle}

-- a task whose walk has ended when it had read OTHERS as 0
abbrev pub skipped_line : ℕ → List ℕ
skipped_line t = codes "task " ++ decimal t ++ codes " skipped\n"

-- a task whose walk has ended after so many loads
abbrev pub walked_line : ℕ → ℕ → List ℕ
walked_line t loads = codes "task " ++ decimal t ++ codes " walked after " ++ decimal loads ++ codes " loads\n"

-- the line of a walk that ends after this last read
abbrev pub settled_line : ℕ → ℕ → LastRead → List ℕ
settled_line t loads (SawOthers n) = skipped_line t
settled_line t loads Published = walked_line t loads
settled_line t loads Counted = walked_line t loads
settled_line t loads (SawOwner o) = walked_line t loads
settled_line t loads (SawWait u o) = walked_line t loads
settled_line t loads Passed = walked_line t loads
settled_line t loads Changed = walked_line t loads

-- the cell that is waited for
abbrev pub awaited_text : Option ℕ → List ℕ
awaited_text (Some c) = decimal c
awaited_text None = []

-- what a task waits for
abbrev pub wait_text : Cells → ℕ → List ℕ
wait_text cells t = decimal t ++ codes " waits for " ++ awaited_text (wait cells t)

-- an alarm of t after so many loads, on the cycle of t and then these tasks
abbrev pub alarm_line : Cells → ℕ → ℕ → List ℕ → List ℕ
alarm_line cells t loads ts =
    codes "task " ++ decimal t ++ codes " alarmed after " ++ decimal loads ++ codes " loads: "
    ++ wait_text cells t ++ flat_map (λ u. codes ", " ++ wait_text cells u) ts ++ codes "\n"

-- what is said of an event that is allowed in s: a line where a walk ends, and nothing else
abbrev pub IsSaid : CoreState → Event → List ℕ → Type 0
IsSaid s (Make t) text = text ≡ []
IsSaid s (Fork t) text = text ≡ []
IsSaid s (Hand t p c) text = text ≡ []
IsSaid s (Close t p) text = text ≡ []
IsSaid s (Raise t) text = text ≡ []
IsSaid s (Publish t p) text = text ≡ []
IsSaid s (LoadOthers t) text = text ≡ []
IsSaid s (LoadCount t) text = text ≡ []
IsSaid s (ReadOwner t) text = text ≡ []
IsSaid s (ReadWait t) text = text ≡ []
IsSaid s (ReadOwnerAgain t) text = text ≡ []
-- an alarm tells the standing cycle from t on
IsSaid s (Alarm t) text =
    Walks s t.0 (λ c way w. (ts : List ℕ) × IsCycle s.cells (t.0 ∷ ts) × (text ≡ alarm_line s.cells t.0 w.loads ts))
IsSaid s (Settle t) text = Walks s t.0 (λ c way w. text ≡ settled_line t.0 w.loads w.last)
IsSaid s (Unwait t) text = text ≡ []
IsSaid s Lower text = text ≡ []

-- whether an event is an alarm
abbrev pub is_alarm : Event → Bool
is_alarm (Make t) = false
is_alarm (Fork t) = false
is_alarm (Hand t p c) = false
is_alarm (Close t p) = false
is_alarm (Raise t) = false
is_alarm (Publish t p) = false
is_alarm (LoadOthers t) = false
is_alarm (LoadCount t) = false
is_alarm (ReadOwner t) = false
is_alarm (ReadWait t) = false
is_alarm (ReadOwnerAgain t) = false
is_alarm (Alarm t) = true
is_alarm (Settle t) = false
is_alarm (Unwait t) = false
is_alarm Lower = false

-- the line that ends the text where each event was allowed
abbrev pub legal_line : ℕ → List ℕ
legal_line events = codes "legal " ++ decimal events ++ codes " events\n"

-- the line that ends the text where the event of this line wasn't allowed
abbrev pub illegal_line : ℕ → List ℕ
illegal_line line = codes "illegal at line " ++ decimal line ++ codes "\n"

-- from s on, where so many events were allowed before, the events have this text, and are marked or not: an event
-- that isn't allowed ends the text and marks, and so does an alarm that is allowed mark
abbrev pub IsJudgedFrom : ℕ → CoreState → ℕ → List Event → List ℕ → Bool → Type 0
IsJudgedFrom N s before [] text marked = (text ≡ legal_line before) × (marked ≡ false)
IsJudgedFrom N s before (e ∷ es) text marked =
    (¬ Allowed N s e × (text ≡ illegal_line (suc before)) × (marked ≡ true))
    ⊎ (Allowed N s e
    × ((said : List ℕ) × (rest : List ℕ) × (more : Bool)
    × IsSaid s e said
    × IsJudgedFrom N (after s e) (suc before) es rest more
    × (text ≡ said ++ rest)
    × (marked ≡ (is_alarm e || more))))

-- the text and the mark of a list of events from the root alone on, with at most N cells
abbrev pub IsJudged : ℕ → List Event → List ℕ → Bool → Type 0
IsJudged N events text marked = IsJudgedFrom N root_alone 0 events text marked
