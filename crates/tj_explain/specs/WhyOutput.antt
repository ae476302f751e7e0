-- The output: the status and the text that belong to words and an input.
use Rattle.std.specs.Prelude.{ℕ, ◌≡◌, ◌⊎◌, Bool, true, false, List, [], ◌∷◌, ◌++◌, String, codes, length, take}
use Rattle.std.specs.declared.alloc.Global.{Global}
use Rattle.tj_body.specs.Rounds.{IsFull, meaning}
use Rattle.tj_command.specs.Statuses.{status_of}
use Rattle.tj_command.specs.declared.status.Status.{Status}
use Rattle.tj_command.specs.declared.status.Status.TheVariants.{Clean, Full, Script, Usage}
use Rattle.tj_syntax.specs.ScriptTexts.{IsFirstFault, IsScriptOf, most_bytes}
use Rattle.tj_syntax.specs.declared.script_text.NoScript.{NoScript}
use Rattle.tj_syntax.specs.declared.script_text.NoScript.TheVariants as no_script
use Rattle.tj_eval.specs.Stands.{IsPlacedMain, PlacedState}
use Rattle.tj_lex.specs.declared.token.Tok.TheVariants as toks
use Rattle.tj_lex.specs.declared.token.Token.{Token}
use Rattle.tj_lex.specs.Tokens.{AreTokens}
use Rattle.tj_mean.specs.Outcomes.{IsOutcome, is_marked}
use Rattle.tj_mean.specs.declared.outcome.Outcome.{Outcome}
use Rattle.tj_syntax.specs.Faults.{kinds_of, tokens_of}
use Rattle.tj_syntax.specs.Grammar.{IsProgram}
use Rattle.tj_syntax.specs.Marks.{Noted}
use Rattle.tj_syntax.specs.PlacesOf.{PlacesOfTask, places_of}
use Rattle.tj_syntax.specs.Starts.{in_tasks}
use Rattle.tj_syntax.specs.Trees.{Task}
use Rattle.tj_trace.specs.Logs.{logged_program}
use Rattle.tj_trace.specs.TraceLaws.{script_program}
use Rattle.tj_trace.specs.MostMade.{IsMostMade}
use Rattle.tj_trace.specs.Traces.{AreTraced}
use Rattle.tj_trace.specs.declared.line.TraceLine.{TraceLine}
use Rattle.tj_trace.specs.declared.most.Most.{Most}
use Rattle.tj_faults.specs.Carets.{lines_of}
use Rattle.tj_explain.specs.WhyLine.{HasNoForm, IsCommand}
use Rattle.tj_findings.specs.Scenes.{Told, statements_of}
use Rattle.tj_explain.specs.Tellings.{fault_told, fine_told, full_told, why_text}
use Rattle.tj_explain.specs.declared.telling.Telling.{Telling}
use Rattle.tj_explain.specs.declared.telling.Telling.TheVariants as telling
use Rattle.tj_explain.specs.declared.line.WhyCommand.{WhyCommand}

-- where the words have no form
abbrev pub usage_line : List ℕ
usage_line = codes "usage: tj-why [--cells N] [--steps N] [--strict] [--short] [[--all] [--json] | --dot]\n"

-- the places of the parts of a script with these tokens, whatever derivation of the grammar they are read off
abbrev pub ArePlaces : List Token → List PlacesOfTask → Type 0
ArePlaces tokens places = (notes : List Noted) (script : List Task) (derived : IsProgram notes script)
    → kinds_of tokens ≡ tokens_of notes ++ toks.End ∷ [] → places ≡ places_of tokens (in_tasks derived 0)

-- the lines of the trace are looked into: for a picture, or where the outcome is marked
abbrev pub tells_lines : Telling → Bool → Bool
tells_lines telling.Wrong marked = marked
tells_lines telling.All marked = marked
tells_lines telling.Dot marked = true
tells_lines telling.Json marked = marked

-- what a command tells of an input looks these things up
abbrev pub scene_of : WhyCommand → List ℕ → List Task → List PlacesOfTask → Told
scene_of command input script places =
    record {
      script = script;
      statements = statements_of script;
      places = places;
      lines = lines_of input;
      short = command.short;
    }

-- What is told of the run of a command's script with this root: that it needs more cells than the limit, and which
-- statement made most of the first cells of the first round that has more, or what the text tells of its outcome, of
-- its trace, and of the places of the script's parts.
pub data IsToldRun (command : WhyCommand) (input : List ℕ) (script : List Task) (tokens : List Token)
    (root : PlacedState) : Status → List ℕ → Type 0 where
  needs_more : (most : Most) (places : List PlacesOfTask)
      → IsFull (script_program command.limits.strict root) command.limits.cells
      → IsMostMade (logged_program command.limits.strict root) command.limits.cells most → ArePlaces tokens places
      → IsToldRun command input script tokens root Full
      (full_told command.telling (scene_of command input script places) command.limits.cells most)
  was_fine : (outcome : Outcome) → ¬ IsFull (script_program command.limits.strict root) command.limits.cells
      → IsOutcome (meaning (script_program command.limits.strict root) command.limits.cells) outcome
      → tells_lines command.telling (is_marked outcome) ≡ false
      → IsToldRun command input script tokens root Clean (fine_told command.telling (length outcome.lines))
  ended : (outcome : Outcome) (lines : List TraceLine) (places : List PlacesOfTask)
      → ¬ IsFull (script_program command.limits.strict root) command.limits.cells
      → IsOutcome (meaning (script_program command.limits.strict root) command.limits.cells) outcome
      → AreTraced (logged_program command.limits.strict root) command.limits.cells lines → ArePlaces tokens places
      → IsToldRun command input script tokens root (status_of (is_marked outcome))
      (why_text (scene_of command input script places) lines outcome command.telling)

-- what is told of an input that is a script: its run, from the body of `main` on
pub record IsToldScript (command : WhyCommand) (input : List ℕ) (status : Status) (text : List ℕ) : Type 0 where
  pub script : List Task
  pub is : IsScriptOf input script
  pub root : PlacedState
  pub main : IsPlacedMain script command.limits.steps root
  pub told : IsToldRun command input script is.tokens root status text

-- the tokens of a text whose fault is one of the grammar; of another fault there are none
abbrev pub AreTokensOf : List ℕ → NoScript → List Token → Type 0
AreTokensOf text (no_script.Long at) tokens = tokens ≡ []
AreTokensOf text (no_script.Tokens fault) tokens = tokens ≡ []
AreTokensOf text (no_script.Grammar fault) tokens = AreTokens text tokens

-- what is told of an input that is no script: its first fault, in the first bytes, of which a script has no more
pub record IsToldFault (telling : Telling) (input : List ℕ) (status : Status) (text : List ℕ) : Type 0 where
  pub fault : NoScript
  pub first : IsFirstFault input fault
  pub is_script : status ≡ Script
  pub tokens : List Token
  pub has_tokens : AreTokensOf input fault tokens
  pub told : text ≡ fault_told telling (take most_bytes input) tokens fault

-- the output of a command
abbrev pub IsCommandOutput : WhyCommand → (input : List ℕ) → Status → List ℕ → Type 0
IsCommandOutput command input status text =
    IsToldFault command.telling input status text ⊎ IsToldScript command input status text

-- the output: the usage line where the words have no form, and else that of the command that they are
pub data IsOutput (words : List (String Global)) (input : List ℕ) : Status → List ℕ → Type 0 where
  usage : HasNoForm words → IsOutput words input Usage usage_line
  of_command : {status : Status} {text : List ℕ} (command : WhyCommand) → IsCommand words command
      → IsCommandOutput command input status text → IsOutput words input status text

-- the words are a command
abbrev pub HaveForm : List (String Global) → Type 0
HaveForm words = (command : WhyCommand) × IsCommand words command
