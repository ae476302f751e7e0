-- Runs of scripts and of bodies: what a run begins with, and what it gives.
use Rattle.std.specs.Prelude.{ℕ, ◌≡◌, Bool, List}
use Rattle.tj_body.specs.Programs.{Program, program_of}
use Rattle.tj_body.specs.Rounds.{IsFull, meaning}
use Rattle.tj_eval.specs.Bodies.{IsMainBody, script_places, script_awaits, script_left, script_asks, script_then}
use Rattle.tj_eval.specs.Statements.{TaskState}
use Rattle.tj_mean.specs.declared.outcome.Outcome.{Outcome}
use Rattle.tj_mean.specs.Outcomes.{IsOutcome}
use Rattle.tj_mean.specs.ReportTexts.{report}
use Rattle.tj_syntax.specs.Trees.{Task}
use Rattle.tj_words.specs.AtRest.RestShown.{RestShown}
use Rattle.tj_embed.specs.declared.options.Options.{Options}

-- the program of a root whose body is that of a script's task
abbrev pub script_program : Bool → TaskState → Program TaskState
script_program = program_of script_places script_awaits script_left script_asks script_then

-- the run of a script with these options: it began with the body of `main`, under this rule and limit of cells
pub record IsRunOf (script : List Task) (o : Options) (r : RestShown TaskState) : Type 0 where
  pub root : IsMainBody script o.steps r.root
  pub limit : r.limit ≡ o.cells
  pub strict : r.strict ≡ o.strict

-- the script needs more cells than the options allow
abbrev pub NeedsMore : List Task → Options → Type 0
NeedsMore script o = (root : TaskState) × IsMainBody script o.steps root
    × IsFull (script_program o.strict root) o.cells

-- the outcome of the meaning of a script with these options, which isn't full
abbrev pub IsOutcomeOfScript : List Task → Options → Outcome → Type 0
IsOutcomeOfScript script o outcome = (root : TaskState) × IsMainBody script o.steps root
    × (¬ IsFull (script_program o.strict root) o.cells)
    × IsOutcome (meaning (script_program o.strict root) o.cells) outcome

-- the outcome of the meaning of what a run began with
abbrev pub IsOutcomeOfRun : RestShown TaskState → Outcome → Type 0
IsOutcomeOfRun r outcome = IsOutcome (meaning (script_program r.strict r.root) r.limit) outcome

-- the text is the report of that outcome
abbrev pub IsReportOfRun : RestShown TaskState → List ℕ → Type 0
IsReportOfRun r text = (outcome : Outcome) × IsOutcomeOfRun r outcome × (text ≡ report outcome)
