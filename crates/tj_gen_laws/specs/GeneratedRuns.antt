-- Runs of the generated script: what its `main` prints and ends with, how many statements it makes, and how many cells
-- the run needs.
use Rattle.std.specs.Prelude.{ℕ, suc, ◌+◌, ◌*◌, ◌/◌, ◌<◌, ◌≤◌, ◌≡◌, ◌↔◌, ℤ, pos, false, Some, List, [], ◌∷◌}
use Rattle.tj_base.specs.declared.cause.Cause.TheVariants as cause
use Rattle.tj_base.specs.declared.value.Shown.TheVariants as shown
use Rattle.tj_body.specs.Points.{IsIn}
use Rattle.tj_body.specs.Rounds.{meaning}
use Rattle.tj_body.specs.declared.point.Point.{Point}
use Rattle.tj_command.specs.declared.limits.Limits.{Limits}
use Rattle.tj_eval.specs.declared.body.TheConstants.{MAX_STEPS}
use Rattle.tj_eval.specs.Statements.{TaskState}
use Rattle.tj_gen.specs.Script.{script_text}
use Rattle.tj_gen.specs.declared.script.TheConstants.{MAX_SIZE}
use Rattle.tj_mean.specs.Outcomes.{is_marked, stopped_of}
use Rattle.tj_mean.specs.declared.outcome.Ending.{Ending}
use Rattle.tj_mean.specs.declared.outcome.Ending.TheVariants as ending
use Rattle.tj_mean.specs.declared.outcome.Outcome.{Outcome}
use Rattle.tj_mean.specs.declared.outcome.TaskLine.{TaskLine}
use Rattle.tj_modes.specs.Output.{IsStartOfText}
use Rattle.tj_modes.specs.Runs.{Start, NeedsMore, IsOutcomeOf}

-- the sum of the numbers from 1 to size
abbrev pub total : ℕ → ℕ
total size = size * suc size / 2

-- how many statements `main` has: four before its steps, three in each, and four behind them
abbrev pub main_statements : ℕ → ℕ
main_statements size = 3 * size + 8

-- how many cells the run takes: `main` and the promise that it sets, and in each step a task and a promise
abbrev pub cells_taken : ℕ → ℕ
cells_taken size = 2 * size + 2

-- the line of `main` in an outcome, which prints these numbers, ends so, and owes nothing
abbrev pub main_line : List ℤ → Ending → TaskLine
main_line prints end = record { name = []; prints = prints; ending = end; owes = [] }

-- `main` stops so in the run that begins so: a history of the meaning has stopped with its line, and holds no promise
-- any more; so many of its statements have begun; and each outcome of the run has the line
pub record MainStops (limits : Limits) (start : Start) (prints : List ℤ) (end : Ending) (begun : ℕ) : Type 0 where
  pub point : Point TaskState
  pub meant : IsIn point (meaning start.program start.cells)
  pub stops : stopped_of point ≡ Some (record { line = main_line prints end; holds = [] })
  pub steps : point.body.steps + begun ≡ limits.steps
  pub told : (outcome : Outcome) → IsOutcomeOf start outcome → IsIn (main_line prints end) outcome.lines

-- the law holds of each run of the text that is generated for a size, under limits that the program allows, where each
-- task may begin at least so many statements
abbrev pub HoldsOfRuns : (least : ℕ → ℕ) → (ℕ → Limits → Start → Type 0) → Type 0
HoldsOfRuns least Law = (size : ℕ) (limits : Limits) (start : Start) → 0 < size → size ≤ MAX_SIZE
    → least size ≤ limits.steps → limits.steps ≤ MAX_STEPS → IsStartOfText limits (script_text size) start
    → Law size limits start

-- all statements of `main` but its last
abbrev pub but_one : ℕ → ℕ
but_one size = 3 * size + 7

-- the run needs more cells than it may have exactly where those are fewer than it takes
abbrev pub TakesCells : ℕ → Limits → Start → Type 0
TakesCells size limits start = NeedsMore start ↔ (limits.cells < cells_taken size)

-- `main` prints the total and ends with it, and makes all of its statements
abbrev pub MainEnds : ℕ → Limits → Start → Type 0
MainEnds size limits start = cells_taken size ≤ limits.cells → MainStops limits start (pos (total size) ∷ [])
    (ending.Done (shown.Num (pos (total size)))) (main_statements size)

-- where it may begin one statement less than it has, `main` prints the total and fails with Steps at its last one
abbrev pub MainFails : ℕ → Limits → Start → Type 0
MainFails size limits start = suc limits.steps ≡ main_statements size → cells_taken size ≤ limits.cells
    → MainStops limits start (pos (total size) ∷ []) (ending.Failed cause.Steps) (but_one size)

-- the outcome is clean: no task fails, owes or waits, and no cycle stands
abbrev pub IsClean : ℕ → Limits → Start → Type 0
IsClean size limits start = cells_taken size ≤ limits.cells → (outcome : Outcome) → IsOutcomeOf start outcome
    → is_marked outcome ≡ false
