-- The laws of journals: what is defined of reading and of judging leaves one answer.
use Rattle.std.specs.Prelude.{◌≡◌, ℕ, Bool, List}
use Rattle.tj_events.specs.declared.event.Event.{Event}
use Rattle.tj_core.specs.Journals.Lines.{AreEventLines, IsFirstFault}
use Rattle.tj_core.specs.Journals.Judging.{IsJudged}

-- lines are those of one list of events at most
abbrev pub EventsAreOne : Type 0
EventsAreOne = (lines : List (List ℕ)) (a b : List Event) → AreEventLines lines a → AreEventLines lines b → a ≡ b

-- lines have one first fault at most
abbrev pub FirstFaultIsOne : Type 0
FirstFaultIsOne = (lines : List (List ℕ)) (m n : ℕ) → IsFirstFault lines m → IsFirstFault lines n → m ≡ n

-- the lines of a list of events have no first fault
abbrev pub EventsHaveNoFault : Type 0
EventsHaveNoFault =
    (lines : List (List ℕ)) (events : List Event) (n : ℕ) → AreEventLines lines events → ¬ IsFirstFault lines n

-- a list of events is judged with one text at most, and with one mark
abbrev pub JudgingIsOne : Type 0
JudgingIsOne =
    (N : ℕ) (events : List Event) (t u : List ℕ) (m n : Bool)
    → IsJudged N events t m
    → IsJudged N events u n
    → (t ≡ u) × (m ≡ n)
