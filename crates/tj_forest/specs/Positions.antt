-- The law of positions: each task that a finding tells has its declaration, and positions of the statement at which it
-- stopped and of the one that forked it. So a text of findings has no question mark for a task.
use Rattle.std.specs.Prelude.{◌≡◌, ℕ, Bool, List, [], ◌∷◌, map, slice_get, Some, None}
use Rattle.std.specs.List.{flat_map}
use Rattle.std.specs.Prelude.{option_to_list}
use Rattle.tj_body.specs.Points.{IsIn}
use Rattle.tj_body.specs.Rounds.{meaning}
use Rattle.tj_body.specs.declared.point.Point.{Point}
use Rattle.tj_eval.specs.Stands.{IsPlacedMain, PlacedState, StandsRight}
use Rattle.tj_lex.specs.declared.token.Token.{Token}
use Rattle.tj_mean.specs.Outcomes.{IsOutcome}
use Rattle.tj_mean.specs.declared.outcome.Ending.{Ending}
use Rattle.tj_mean.specs.declared.outcome.Outcome.{Outcome}
use Rattle.tj_syntax.specs.Grammar.{IsProgram}
use Rattle.tj_syntax.specs.Marks.{Noted}
use Rattle.tj_syntax.specs.PlacesOf.{PlacesOfTask, places_of}
use Rattle.tj_syntax.specs.Starts.{in_tasks}
use Rattle.tj_syntax.specs.Trees.{Task}
use Rattle.tj_trace.specs.Logs.{logged_program}
use Rattle.tj_trace.specs.RightLines.{IsForkOf, StandsWhere}
use Rattle.tj_trace.specs.SpotLaws.{HasPlace}
use Rattle.tj_trace.specs.TraceLaws.{script_program}
use Rattle.tj_trace.specs.Traces.{AreTraced}
use Rattle.tj_trace.specs.declared.line.Maker.{Maker}
use Rattle.tj_trace.specs.declared.line.TraceLine.{TraceLine}
use Rattle.tj_forest.specs.Explanations.{StoppedSo}
use Rattle.tj_findings.specs.Findings.{findings_of, stop_of}
use Rattle.tj_findings.specs.declared.finding.Finding.{Finding}
use Rattle.tj_findings.specs.declared.finding.Finding.TheVariants as finding
use Rattle.tj_findings.specs.declared.finding.ToldTask.{ToldTask}

-- the tasks that a finding tells
abbrev pub tasks_in : Finding → List ToldTask
tasks_in (finding.Cycle waits) = map (λ w. w.task) waits
tasks_in (finding.Behind w) = w.task ∷ []
tasks_in (finding.Failed t c m) = t ∷ []
tasks_in (finding.Owed q t) = t ∷ []
tasks_in (finding.Echo t q o) = t ∷ option_to_list o

-- The task runs a declaration of the script. It stopped at a statement of this declaration at which a task can stop as
-- its history did, or at its closing brace. The root is told without a fork, and each other task with a fork of its
-- declaration. Each of these statements has a position.
pub record IsToldRight {B : Type 0} (ps : List (Point B)) (script : List Task) (places : List PlacesOfTask)
    (t : ToldTask) : Type 0 where
  pub declared : (d : Task) × (slice_get script t.decl ≡ Some d)
  pub stopped : (e : Ending) × StoppedSo ps t.name e × (t.stop ≡ stop_of e) × StandsWhere script t.decl t.at e
  pub stands : HasPlace places t.decl t.at
  pub root : t.name ≡ [] → t.fork ≡ None
  pub forked : ¬ (t.name ≡ []) → IsForkOf script t.decl t.fork
  pub fork_stands : (m : Maker) → t.fork ≡ Some m → HasPlace places m.decl m.at

-- so is each task that is told of a run from the body of `main` on
abbrev pub TasksAreToldRight : Type 0
TasksAreToldRight = (script : List Task) (steps : ℕ) (root : PlacedState) → IsPlacedMain script steps root
    → (tokens : List Token) (notes : List Noted) (derived : IsProgram notes script)
    → (strict : Bool) (N : ℕ) (lines : List TraceLine) (o : Outcome)
    → AreTraced (logged_program strict root) N lines → IsOutcome (meaning (script_program strict root) N) o
    → (t : ToldTask) → IsIn t (flat_map tasks_in (findings_of lines o.cycles))
    → IsToldRight (meaning (script_program strict root) N) script (places_of tokens (in_tasks derived 0)) t

-- where a run begins at the body of `main`, its root stands right, and is of this script: so the laws of traces hold of it
abbrev pub MainStandsRight : Type 0
MainStandsRight = (script : List Task) (steps : ℕ) (root : PlacedState) → IsPlacedMain script steps root
    → StandsRight root × (root.task.script ≡ script)
