-- The laws of traces.
use Rattle.std.specs.Prelude.{◌≡◌, ◌↔◌, ℕ, Bool, List, map}
use Rattle.tj_body.specs.Programs.{Program, program_of}
use Rattle.tj_body.specs.Rounds.{meaning, IsFull}
use Rattle.tj_eval.specs.Bodies.{script_places, script_awaits, script_left, script_asks, script_then}
use Rattle.tj_eval.specs.Statements.{TaskState}
use Rattle.tj_eval.specs.Stands.{PlacedState}
use Rattle.tj_mean.specs.Outcomes.{IsOutcome}
use Rattle.tj_mean.specs.declared.outcome.Outcome.{Outcome}
use Rattle.tj_trace.specs.Logs.{logged_program}
use Rattle.tj_trace.specs.Traces.{AreTraced}
use Rattle.tj_trace.specs.declared.line.TraceLine.{TraceLine}

-- the program of the task without its stand
abbrev pub script_program : Bool → PlacedState → Program TaskState
script_program strict root =
    program_of script_places script_awaits script_left script_asks script_then strict root.task

-- the lines of a trace are those of the outcome of the program without stands, line by line
abbrev pub IsOfOutcome : Bool → PlacedState → Type 0
IsOfOutcome strict root = (N : ℕ) (lines : List TraceLine) (o : Outcome)
    → AreTraced (logged_program strict root) N lines
    → IsOutcome (meaning (script_program strict root) N) o
    → map (λ l. l.line) lines ≡ o.lines

-- the meaning with stands needs more cells than the limit where that without them does
abbrev pub IsFullAlike : Bool → PlacedState → Type 0
IsFullAlike strict root = (N : ℕ) → IsFull (logged_program strict root) N ↔ IsFull (script_program strict root) N
