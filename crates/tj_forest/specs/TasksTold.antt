-- The law of tasks and histories: each task that a finding tells is told to have stopped as its history did.
use Rattle.std.specs.Prelude.{◌≡◌, ℕ, Bool, List}
use Rattle.std.specs.List.{flat_map}
use Rattle.tj_body.specs.History.{history}
use Rattle.tj_body.specs.Points.{IsIn}
use Rattle.tj_body.specs.Rounds.{given, last_round, meaning, tasks}
use Rattle.tj_body.specs.declared.point.Task.{Task}
use Rattle.tj_eval.specs.Stands.{PlacedState}
use Rattle.tj_mean.specs.Outcomes.{IsOutcome}
use Rattle.tj_mean.specs.declared.outcome.Ending.{Ending}
use Rattle.tj_mean.specs.declared.outcome.Outcome.{Outcome}
use Rattle.tj_trace.specs.Logs.{logged_program}
use Rattle.tj_trace.specs.MadeAt.{placed_program, values_of}
use Rattle.tj_trace.specs.TraceLaws.{script_program}
use Rattle.tj_trace.specs.Traces.{AreTraced, held_at}
use Rattle.tj_trace.specs.declared.line.TraceLine.{TraceLine}
use Rattle.tj_forest.specs.Explanations.{StoppedSo}
use Rattle.tj_findings.specs.Findings.{findings_of, stop_of}
use Rattle.tj_forest.specs.Positions.{tasks_in}
use Rattle.tj_findings.specs.declared.finding.ToldTask.{ToldTask}

-- a task of the meaning stopped so, and one that knows its stand is there; the task told stopped at the statement where
-- the history of that has come to in the end; its variables held at first, and where it failed by `arith` or `kind` in
-- the end, what that history says
pub record IsOfHistory (strict : Bool) (root : PlacedState) (N : ℕ) (t : ToldTask) : Type 0 where
  pub ending : Ending
  pub stopped : (t.stop ≡ stop_of ending) × StoppedSo (meaning (script_program strict root) N) t.name ending
  pub is_task : (u : Task PlacedState) × IsIn u (tasks (placed_program strict root) (last_round N)) × (t.name ≡ u.name)
  pub stood : (u : Task PlacedState) → IsIn u (tasks (placed_program strict root) (last_round N)) → t.name ≡ u.name
      → let program = placed_program strict root in
      let p = history program.rules (given program (last_round N)) u in
      (t.decl ≡ p.body.stand.decl) × (t.at ≡ p.body.stand.at) × (t.began ≡ values_of p u.body.task.vars)
      × (t.held ≡ held_at ending (values_of p p.body.task.vars))

-- so is each task that is told
abbrev pub TasksAreOfHistories : Bool → PlacedState → Type 0
TasksAreOfHistories strict root = (N : ℕ) (lines : List TraceLine) (o : Outcome)
    → AreTraced (logged_program strict root) N lines → IsOutcome (meaning (script_program strict root) N) o
    → (t : ToldTask) → IsIn t (flat_map tasks_in (findings_of lines o.cycles)) → IsOfHistory strict root N t
