-- The laws of echoes: from which task's end each of them came. They speak of the findings and of the histories of the
-- tasks, and of no line of a trace.
use Rattle.std.specs.Prelude.{◌≡◌, ◌≤◌, ◌⊎◌, ℕ, suc, Bool, List, Option, Some}
use Rattle.tj_base.specs.Cycles.{Reaches}
use Rattle.tj_base.specs.ForkOrder.{Name}
use Rattle.tj_base.specs.declared.cause.Cause.{Cause}
use Rattle.tj_base.specs.declared.cause.Cause.TheVariants as cause
use Rattle.tj_base.specs.declared.cell.TheConstants.{MAX_CELLS}
use Rattle.tj_body.specs.History.{history}
use Rattle.tj_body.specs.Points.{IsIn}
use Rattle.tj_body.specs.Rounds.{given, meaning, tasks}
use Rattle.tj_body.specs.declared.point.Close.TheVariants as close
use Rattle.tj_body.specs.declared.point.Entry.TheVariants as entry
use Rattle.tj_body.specs.declared.point.Point.{Point}
use Rattle.tj_body.specs.declared.point.PointStage.TheVariants as stage
use Rattle.tj_body.specs.declared.point.Task.{Task}
use Rattle.tj_eval.specs.Stands.{PlacedState}
use Rattle.tj_eval.specs.Statements.{TaskState}
use Rattle.tj_mean.specs.Outcomes.{IsOutcome}
use Rattle.tj_mean.specs.declared.outcome.Ending.TheVariants as ending
use Rattle.tj_mean.specs.declared.outcome.Outcome.{Outcome}
use Rattle.tj_trace.specs.Logs.{logged_program}
use Rattle.tj_trace.specs.TraceLaws.{script_program}
use Rattle.tj_trace.specs.Traces.{AreTraced}
use Rattle.tj_trace.specs.declared.line.Maker.{Maker}
use Rattle.tj_trace.specs.declared.line.TraceLine.{TraceLine}
use Rattle.tj_forest.specs.Explanations.{OwedIt, StoppedSo}
use Rattle.tj_findings.specs.Findings.{findings_of}
use Rattle.tj_findings.specs.declared.finding.Finding.{Finding}
use Rattle.tj_findings.specs.declared.finding.Finding.TheVariants as finding
use Rattle.tj_findings.specs.declared.finding.Stop.TheVariants as stop
use Rattle.tj_findings.specs.declared.finding.ToldCell.{ToldCell}
use Rattle.tj_findings.specs.declared.finding.ToldTask.{ToldTask}

module _ {B : Type 0} (ps : List (Point B)) where
  -- the end of task y broke the cell q: it is the result of y, which failed, or a promise that y owed
  abbrev pub BrokeIt : Name → Name → Type 0
  BrokeIt y q = ((q ≡ y) × ((c : Cause) × StoppedSo ps y (ending.Failed c))) ⊎ OwedIt ps y q

  -- task x failed for a broken cell, and the end of task y broke that
  abbrev pub CameFrom : Name → Name → Type 0
  CameFrom x y = (q : Name) × StoppedSo ps x (ending.Failed (cause.Broken q)) × BrokeIt y q

-- the task echoes nothing: it is told as a failure for no broken cell, or ended and is told to owe a promise
abbrev pub BeginsEchoes : List Finding → ToldTask → Type 0
BeginsEchoes fs t =
    ((c : Cause) × (m : Option Maker) × IsIn (finding.Failed t c m) fs × ((q : Name) → c ≡ cause.Broken q → ⊥))
    ⊎ ((t.stop ≡ stop.Ended) × ((q : ToldCell) × IsIn (finding.Owed q t) fs))

-- each echo that is told has an origin, which echoes nothing; steps back lead to it, each of them from a failure for a
-- broken cell to the task whose end broke that
abbrev pub EchoesHaveOrigins : Bool → PlacedState → Type 0
EchoesHaveOrigins strict root = (N : ℕ) (lines : List TraceLine) (o : Outcome) → N ≤ MAX_CELLS
    → AreTraced (logged_program strict root) N lines → IsOutcome (meaning (script_program strict root) N) o
    → (t : ToldTask) (q : ToldCell) (origin : Option ToldTask)
    → IsIn (finding.Echo t q origin) (findings_of lines o.cycles)
    → (s : ToldTask) × (origin ≡ Some s) × BeginsEchoes (findings_of lines o.cycles) s
    × ((k : ℕ) × Reaches (CameFrom (meaning (script_program strict root) N)) t.name (suc k) s.name)

-- a task that has failed for a broken cell in some round names one that was broken in the round before
abbrev pub EchoesNameEarlierCells : Bool → PlacedState → Type 0
EchoesNameEarlierCells strict root = (n : ℕ) (t : Task TaskState) (q : Name)
    → let program = script_program strict root in
    IsIn t (tasks program (suc n))
    → (history program.rules (given program n) t).stage ≡ stage.Closed (close.Failed (cause.Broken q))
    → given program n q ≡ Some entry.Broken
