-- The law of cells: each cell that a finding tells is told with the statement that made it.
use Rattle.std.specs.Prelude.{◌≡◌, ℕ, suc, ◌*◌, Bool, List, [], ◌∷◌, ◌++◌, map, Option, Some, None}
use Rattle.std.specs.Prelude.{slice_get}
use Rattle.std.specs.List.{flat_map}
use Rattle.tj_base.specs.ForkOrder.{Name, child}
use Rattle.tj_base.specs.declared.cause.Cause.{Cause}
use Rattle.tj_base.specs.declared.cause.Cause.TheVariants as cause
use Rattle.tj_body.specs.Asks.{IsFresh}
use Rattle.tj_body.specs.Points.{IsIn}
use Rattle.tj_body.specs.Programs.{Program}
use Rattle.tj_body.specs.Rounds.{IsFull, given, last_round, meaning, tasks}
use Rattle.tj_body.specs.declared.point.Task.{Task}
use Rattle.tj_eval.specs.Bodies.{script_awaits, script_left, script_places}
use Rattle.tj_eval.specs.Stands.{IsPlacedMain, PlacedState}
use Rattle.tj_lex.specs.declared.token.Token.{Token}
use Rattle.tj_mean.specs.Outcomes.{IsOutcome}
use Rattle.tj_mean.specs.declared.outcome.Outcome.{Outcome}
use Rattle.tj_syntax.specs.Grammar.{IsProgram}
use Rattle.tj_syntax.specs.Marks.{Noted}
use Rattle.tj_syntax.specs.PlacesOf.{PlacesOfTask, places_of}
use Rattle.tj_syntax.specs.Starts.{in_tasks}
use Rattle.tj_syntax.specs.Trees as trees
use Rattle.tj_trace.specs.Logs.{logged_program}
use Rattle.tj_trace.specs.MadeAt.{made_until, placed_program}
use Rattle.tj_trace.specs.RightLines.{IsMadeIn}
use Rattle.tj_trace.specs.SpotLaws.{HasPlace}
use Rattle.tj_trace.specs.TraceLaws.{script_program}
use Rattle.tj_trace.specs.Traces.{AreTraced}
use Rattle.tj_trace.specs.declared.line.Maker.{Maker}
use Rattle.tj_trace.specs.declared.line.TraceLine.{TraceLine}
use Rattle.tj_findings.specs.Findings.{findings_of}
use Rattle.tj_forest.specs.Positions.{tasks_in}
use Rattle.tj_findings.specs.declared.finding.ToldTask.{ToldTask}
use Rattle.tj_findings.specs.declared.finding.Finding.{Finding}
use Rattle.tj_findings.specs.declared.finding.Finding.TheVariants as finding
use Rattle.tj_findings.specs.declared.finding.ToldCell.{ToldCell}

-- the cell that a cause names, with what is told to have made it
abbrev pub cells_named : Cause → Option Maker → List ToldCell
cells_named cause.Arith m = []
cells_named cause.Kind m = []
cells_named cause.Steps m = []
cells_named (cause.Owner q) m = (record { name = q; maker = m }) ∷ []
cells_named (cause.Broken q) m = (record { name = q; maker = m }) ∷ []
cells_named (cause.Order q) m = (record { name = q; maker = m }) ∷ []

-- the cells that a finding names: those for which a task waits, that a failure is for, or that a task owed
abbrev pub named_in : Finding → List ToldCell
named_in (finding.Cycle waits) = map (λ w. w.cell) waits
named_in (finding.Behind w) = w.cell ∷ []
named_in (finding.Failed t c m) = cells_named c m
named_in (finding.Owed q t) = q ∷ []
named_in (finding.Echo t q o) = q ∷ []

-- a task as a cell, with the statement that forked it
abbrev pub task_cell : ToldTask → ToldCell
task_cell t = record { name = t.name; maker = t.fork }

-- all cells that a finding tells, the tasks among them
abbrev pub cells_in : Finding → List ToldCell
cells_in f = named_in f ++ map task_cell (tasks_in f)

-- The root's result is told without a statement that made it. Each other cell is told with one: a `new` of a
-- declaration of the script, or a `fork`. This has a position. It is the statement at which the history of the task that
-- made the cell stood as it made it, and there is such a task.
pub record IsCellToldRight (script : List trees.Task) (places : List PlacesOfTask) (program : Program PlacedState)
    (N : ℕ) (q : ToldCell) : Type 0 where
  pub root : q.name ≡ [] → q.maker ≡ None
  pub made : ¬ (q.name ≡ []) → (m : Maker) × (q.maker ≡ Some m) × IsMadeIn script m.decl m × HasPlace places m.decl m.at
  pub is_task : (x : Name) (k : ℕ) → q.name ≡ child x (suc k)
      → (t : Task PlacedState) × IsIn t (tasks program (last_round N)) × (t.name ≡ x)
  pub stood : (x : Name) (k : ℕ) → q.name ≡ child x (suc k) → (t : Task PlacedState)
      → IsIn t (tasks program (last_round N)) → t.name ≡ x
      → slice_get (made_until program.rules (given program (last_round N)) t (2 * suc (program.rules.left t.body))) k
      ≡ q.maker

-- so is each cell that is told of a run from the body of `main` on which isn't full
abbrev pub CellsAreToldRight : Type 0
CellsAreToldRight = (script : List trees.Task) (steps : ℕ) (root : PlacedState) → IsPlacedMain script steps root
    → IsFresh script_places script_awaits script_left 1 root.task
    → (tokens : List Token) (notes : List Noted) (derived : IsProgram notes script)
    → (strict : Bool) (N : ℕ) (lines : List TraceLine) (o : Outcome) → ¬ IsFull (script_program strict root) N
    → AreTraced (logged_program strict root) N lines → IsOutcome (meaning (script_program strict root) N) o
    → (q : ToldCell) → IsIn q (flat_map cells_in (findings_of lines o.cycles))
    → IsCellToldRight script (places_of tokens (in_tasks derived 0)) (placed_program strict root) N q
