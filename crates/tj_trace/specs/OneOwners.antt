-- The law of owners: a trace has one line at most that tells of the owner of a cell.
use Rattle.std.specs.Prelude.{◌≡◌, ℕ, Bool, List}
use Rattle.tj_base.specs.ForkOrder.{Name}
use Rattle.tj_body.specs.Points.{IsIn}
use Rattle.tj_eval.specs.Stands.{PlacedState}
use Rattle.tj_trace.specs.Logs.{logged_program}
use Rattle.tj_trace.specs.Lookups.{kept_by}
use Rattle.tj_trace.specs.Traces.{AreTraced}
use Rattle.tj_trace.specs.declared.line.TraceLine.{TraceLine}

-- lines of tasks that owned one cell where they stopped are one line
abbrev pub OwnersAreOne : Bool → PlacedState → Type 0
OwnersAreOne strict root = (N : ℕ) (lines : List TraceLine) → AreTraced (logged_program strict root) N lines
    → (l m : TraceLine) (q : Name) → IsIn l lines → IsIn m lines → IsIn q (kept_by l) → IsIn q (kept_by m) → l ≡ m
