-- The law of texts: what is told of a run, in words or objects, is a forest of findings, and these explain the run.
use Rattle.std.specs.Prelude.{◌≡◌, ◌↔◌, ℕ, suc, Bool, true, false, List, [], ◌∷◌, String, length, Option, Some, None}
use Rattle.std.specs.List.{flat_map}
use Rattle.std.specs.declared.alloc.Global.{Global}
use Rattle.tj_base.specs.Cycles.{Reaches}
use Rattle.tj_base.specs.ForkOrder.{Name}
use Rattle.tj_base.specs.declared.cause.Cause.{Cause}
use Rattle.tj_base.specs.declared.cause.Cause.TheVariants as cause
use Rattle.tj_body.specs.Points.{IsIn}
use Rattle.tj_body.specs.Rounds.{IsFull, meaning}
use Rattle.tj_body.specs.WaitGraph.{WaitsFor}
use Rattle.tj_command.specs.Statuses.{status_of}
use Rattle.tj_command.specs.declared.status.Status.{Status}
use Rattle.tj_eval.specs.Stands.{IsPlacedMain, PlacedState}
use Rattle.tj_mean.specs.Outcomes.{IsOutcome}
use Rattle.tj_mean.specs.declared.outcome.Outcome.{Outcome}
use Rattle.tj_syntax.specs.PlacesOf.{PlacesOfTask, places_of}
use Rattle.tj_syntax.specs.ScriptTexts.{IsScriptOf}
use Rattle.tj_syntax.specs.Starts.{in_tasks}
use Rattle.tj_syntax.specs.Trees.{Task}
use Rattle.tj_trace.specs.MadeAt.{placed_program}
use Rattle.tj_trace.specs.TraceLaws.{script_program}
use Rattle.tj_trace.specs.declared.line.Maker.{Maker}
use Rattle.tj_forest.specs.CellsTold.{IsCellToldRight, cells_in, cells_named}
use Rattle.tj_forest.specs.Consequences.{IsInOrder}
use Rattle.tj_forest.specs.Explanations.{IsToldCycle, LeadsToToldCycle, TellsEachOnce, cycles_in, told_waits_in}
use Rattle.tj_findings.specs.Forests.{Forest, findings_in}
use Rattle.tj_forest.specs.Origins.{BeginsEchoes, CameFrom}
use Rattle.tj_forest.specs.Positions.{IsToldRight, tasks_in}
use Rattle.tj_forest.specs.ReasonsTold.{IsToldWhy}
use Rattle.tj_findings.specs.Scenes.{Told}
use Rattle.tj_forest.specs.TasksTold.{IsOfHistory}
use Rattle.tj_explain.specs.WhyLine.{IsCommand}
use Rattle.tj_explain.specs.WhyOutput.{IsOutput, scene_of}
use Rattle.tj_json.specs.JsonTexts.{forest_json}
use Rattle.tj_explain.specs.Tellings.{fine_told}
use Rattle.tj_forest.specs.WentLaws.{IsToldWent}
use Rattle.tj_texts.specs.WhyTexts.{forest_text}
use Rattle.tj_findings.specs.declared.finding.Finding.{Finding}
use Rattle.tj_findings.specs.declared.finding.Finding.TheVariants as finding
use Rattle.tj_findings.specs.declared.finding.ToldCell.{ToldCell}
use Rattle.tj_findings.specs.declared.finding.ToldTask.{ToldTask}
use Rattle.tj_findings.specs.declared.finding.Wait.{Wait}
use Rattle.tj_explain.specs.declared.line.WhyCommand.{WhyCommand}
use Rattle.tj_explain.specs.declared.telling.Telling.{Telling}
use Rattle.tj_explain.specs.declared.telling.Telling.TheVariants as telling

-- the findings explain the run of a script with a limit of N cells: what the laws of findings say holds of them
pub record Explains (script : List Task) (places : List PlacesOfTask) (strict : Bool) (root : PlacedState) (N : ℕ)
    (fs : List Finding) : Type 0 where
  -- each wait, each failure and each promise owed is told, and no other, each once
  pub each_once : TellsEachOnce (meaning (script_program strict root) N) fs
  -- a cycle has members, from the one with the least name on, and each owner is the next member
  pub owners : (waits : List Wait) → IsIn waits (flat_map cycles_in fs) → IsToldCycle waits
  -- what a task waits for leads to a cycle that is told, and has the owner that is told
  pub leads : (w : Wait) → IsIn w (flat_map told_waits_in fs)
      → LeadsToToldCycle (meaning (script_program strict root) N) fs w.task.name
      × ((y : Name) × (w.owner ≡ Some y) × WaitsFor (meaning (script_program strict root) N) w.task.name y)
  -- each echo has an origin, which echoes nothing
  pub origins : (t : ToldTask) (q : ToldCell) (origin : Option ToldTask) → IsIn (finding.Echo t q origin) fs
      → (s : ToldTask) × (origin ≡ Some s) × BeginsEchoes fs s
      × ((k : ℕ) × Reaches (CameFrom (meaning (script_program strict root) N)) t.name (suc k) s.name)
  -- a failure that isn't told as an echo is for no broken cell
  pub failures : (t : ToldTask) (c : Cause) (m : Option Maker) → IsIn (finding.Failed t c m) fs
      → (q : Name) → c ≡ cause.Broken q → ⊥
  -- what made a cell is told with a failure only if its cause names one
  pub makers : (t : ToldTask) (c : Cause) (m : Option Maker) → IsIn (finding.Failed t c m) fs
      → cells_named c m ≡ [] → m ≡ None
  -- each task is told to have stopped as it did, where it stood then
  pub histories : (t : ToldTask) → IsIn t (flat_map tasks_in fs) → IsOfHistory strict root N t
  -- each task has its declaration, and positions of the statements at which it stopped and was forked
  pub tasks : (t : ToldTask) → IsIn t (flat_map tasks_in fs)
      → IsToldRight (meaning (script_program strict root) N) script places t
  -- each cell but the root's result has the statement that made it, with a position; the root's has none
  pub cells : (q : ToldCell) → IsIn q (flat_map cells_in fs)
      → IsCellToldRight script places (placed_program strict root) N q
  -- where a promise went is told as the histories did it, with positions, of a task without a right to it alone
  pub went : (t : ToldTask) → IsIn t (flat_map tasks_in fs) → IsToldWent strict root N places t
  -- each failure by `arith` or `kind` has a reason that is told
  pub reasons : (t : ToldTask) (c : Cause) (m : Option Maker) → IsIn (finding.Failed t c m) fs
      → IsToldWhy script t c

-- what is told of a forest: in words, of findings that are alike at once or of each, or as objects; a graph tells none
abbrev pub forest_told : Told → Telling → Forest → List ℕ
forest_told s telling.Wrong = forest_text s false
forest_told s telling.All = forest_text s true
forest_told s telling.Dot = λ forest. []
forest_told s telling.Json = forest_json s

-- what is told of a forest with these findings, or where there are none that nothing went wrong with so many tasks
abbrev pub findings_told : Told → Telling → ℕ → Forest → List Finding → List ℕ
findings_told s kind n forest [] = fine_told kind n
findings_told s kind n forest (f ∷ fs) = forest_told s kind forest

-- findings are told: it is no graph
abbrev pub TellsFindings : Telling → Type 0
TellsFindings telling.Wrong = Unit {0}
TellsFindings telling.All = Unit {0}
TellsFindings telling.Dot = ⊥
TellsFindings telling.Json = Unit {0}

-- where the parts of the script stand in the input
abbrev pub own_places : (input : List ℕ) (script : List Task) → IsScriptOf input script → List PlacesOfTask
own_places input script is = places_of is.tokens (in_tasks is.is_script.derived 0)

-- what is told of the run of an input that is a script
pub record IsExplained (command : WhyCommand) (input : List ℕ) (marked : Bool) (text : List ℕ) : Type 0 where
  pub script : List Task
  pub is : IsScriptOf input script
  pub root : PlacedState
  pub main : IsPlacedMain script command.limits.steps root
  pub fits : ¬ IsFull (script_program command.limits.strict root) command.limits.cells
  pub outcome : Outcome
  pub ended : IsOutcome (meaning (script_program command.limits.strict root) command.limits.cells) outcome
  -- the findings of the forest explain the run
  pub forest : Forest
  pub explain : Explains script (own_places input script is) command.limits.strict root command.limits.cells
      (findings_in forest)
  -- each consequence stands below the cause from which it follows, and the causes stand in order
  pub order : IsInOrder (meaning (script_program command.limits.strict root) command.limits.cells)
      (own_places input script is) forest
  pub fine : (findings_in forest ≡ []) ↔ (marked ≡ false)
  pub told : text ≡ findings_told (scene_of command input script (own_places input script is)) command.telling
      (length outcome.lines) forest (findings_in forest)

-- each output in words or objects whose status is that of an outcome is told so
abbrev pub TextsTellFindings : Type 0
TextsTellFindings = (words : List (String Global)) (input : List ℕ) (status : Status) (text : List ℕ)
    → IsOutput words input status text → (command : WhyCommand) → IsCommand words command
    → TellsFindings command.telling → (marked : Bool) → status ≡ status_of marked
    → IsExplained command input marked text
