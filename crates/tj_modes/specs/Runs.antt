-- Runs of scripts: what a run begins with, and what it gives, which is that it is full, or its outcome as it is told.
use Rattle.std.specs.Prelude.{ℕ, ◌≡◌, Bool, List}
use Rattle.tj_body.specs.Programs.{Program, program_of}
use Rattle.tj_body.specs.Rounds.{IsFull, meaning}
use Rattle.tj_eval.specs.Bodies.{IsMainBody, script_places, script_awaits, script_left, script_asks, script_then}
use Rattle.tj_eval.specs.Statements.{TaskState}
use Rattle.tj_mean.specs.declared.outcome.Outcome.{Outcome}
use Rattle.tj_mean.specs.Outcomes.{IsOutcome, is_marked}
use Rattle.tj_mean.specs.ReportTexts.{report}
use Rattle.tj_report.specs.SummaryTexts.{summary}
use Rattle.tj_syntax.specs.Trees.{Task}
use Rattle.tj_modes.specs.RootLines.{root_line}
use Rattle.tj_modes.specs.Texts.{full_line}
use Rattle.tj_command.specs.declared.limits.Limits.{Limits}
use Rattle.tj_modes.specs.declared.script_run.Told.{Told}
use Rattle.tj_modes.specs.declared.script_run.Told.TheVariants.{Report, Root, Summary}
pub use Rattle.tj_command.specs.Statuses.{status_of}
use Rattle.tj_command.specs.declared.status.Status.{Status}
use Rattle.tj_command.specs.declared.status.Status.TheVariants.{Full}

-- the text of an outcome, as it is told
abbrev pub text_of : Told → Outcome → List ℕ
text_of Report outcome = report outcome
text_of (Summary size) outcome = summary size outcome
text_of Root outcome = root_line outcome.lines

-- the program of a root whose body is that of a script's task
abbrev pub script_program : Bool → TaskState → Program TaskState
script_program = program_of script_places script_awaits script_left script_asks script_then

-- what a run of such bodies begins with: the program, which has the rule and the root's body, and the most cells
pub record StartOf (B : Type 0) : Type 0 where
  pub program : Program B
  pub cells : ℕ

-- the run of a program's root, under this rule and with so many cells at most
abbrev pub started : {B : Type 0} → (Bool → B → Program B) → Bool → (cells : ℕ) → B → StartOf B
started program strict cells root = record { program = program strict root; cells = cells }

-- what the run of a script begins with
abbrev pub Start : Type 0
Start = StartOf TaskState

-- the run of a root whose body is that of a script's task
abbrev pub start_of : Bool → (cells : ℕ) → TaskState → Start
start_of strict cells root = started script_program strict cells root

-- the run of a script under these limits begins with this: its root has the body of `main`
abbrev pub IsStartOf : Limits → List Task → Start → Type 0
IsStartOf limits script start = (root : TaskState) × IsMainBody script limits.steps root
    × (start ≡ start_of limits.strict limits.cells root)

-- the program needs more cells
abbrev pub NeedsMore : {B : Type 0} → StartOf B → Type 0
NeedsMore start = IsFull start.program start.cells

-- the outcome of the program's meaning
abbrev pub IsOutcomeOf : {B : Type 0} → StartOf B → Outcome → Type 0
IsOutcomeOf start = IsOutcome (meaning start.program start.cells)

module _ {B : Type 0} where
  -- what the run gives: that it is full, or its outcome as it is told
  pub data IsRunOf (told : Told) (start : StartOf B) : Status → List ℕ → Type 0 where
    full : NeedsMore start → IsRunOf told start Full (full_line start.cells)
    ended : (outcome : Outcome) → ¬ NeedsMore start → IsOutcomeOf start outcome
        → IsRunOf told start (status_of (is_marked outcome)) (text_of told outcome)
