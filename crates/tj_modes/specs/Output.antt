-- The output: the status and the text that belong to words and an input.
use Rattle.std.specs.Prelude.{ℕ, ◌≡◌, ◌⊎◌, Bool, true, false, List, String}
use Rattle.std.specs.declared.alloc.Global.{Global}
use Rattle.tj_gen.specs.Script.{script_text}
use Rattle.tj_syntax.specs.Listing.{listing}
use Rattle.tj_syntax.specs.Trees.{Task}
use Rattle.tj_modes.specs.CommandLine.{IsCommand, HasNoForm}
use Rattle.tj_modes.specs.Judgings.{IsJudging}
use Rattle.tj_modes.specs.KnownRuns.{IsKnownOf}
use Rattle.tj_modes.specs.RelayRuns.{IsRelayRun}
use Rattle.tj_modes.specs.Runs.{Start, IsStartOf, IsRunOf}
use Rattle.tj_syntax.specs.ScriptTexts.{IsScriptOf}
use Rattle.tj_command.specs.ScriptTexts.{IsFaultLine}
use Rattle.tj_modes.specs.Texts.{usage_line}
use Rattle.tj_modes.specs.declared.command.Command.{Command}
use Rattle.tj_modes.specs.declared.command.Command.TheVariants.{Run, Plan, List as list, Judge, Gen, Known}
use Rattle.tj_modes.specs.declared.command.Command.TheVariants.{Relay, Watch}
use Rattle.tj_command.specs.declared.limits.Limits.{Limits}
use Rattle.tj_modes.specs.declared.script_run.Told.{Told}
use Rattle.tj_modes.specs.declared.script_run.Told.TheVariants.{Report, Root, Summary}
use Rattle.tj_command.specs.declared.status.Status.{Status}
use Rattle.tj_command.specs.declared.status.Status.TheVariants.{Clean, Usage, Script}

-- the run of the script that a text is, under these limits, begins with this
abbrev pub IsStartOfText : Limits → List ℕ → Start → Type 0
IsStartOfText limits text start = (script : List Task) × IsScriptOf text script × IsStartOf limits script start

-- what the run of a command's script begins with: the rule, the limit of cells and the root's body. `gen` runs the
-- generated script, `known` and `watch` the input, without the strict rule; `list`, `judge` and `relay` run no script.
-- The number of workers has no part in it.
abbrev pub IsStart : Command → (input : List ℕ) → Start → Type 0
IsStart (Run workers cells steps strict) input =
    IsStartOfText (record { cells = cells; steps = steps; strict = strict }) input
IsStart (Plan cells steps strict) input =
    IsStartOfText (record { cells = cells; steps = steps; strict = strict }) input
IsStart list input = λ start. ⊥
IsStart (Judge cells) input = λ start. ⊥
IsStart (Gen size workers cells steps) input =
    IsStartOfText (record { cells = cells; steps = steps; strict = false }) (script_text size)
IsStart (Known cells steps) input = IsStartOfText (record { cells = cells; steps = steps; strict = false }) input
IsStart (Relay size workers cells) input = λ start. ⊥
IsStart (Watch workers cells steps) input =
    IsStartOfText (record { cells = cells; steps = steps; strict = false }) input

-- what the run of a command and an input gives, as it is told
abbrev pub IsRun : Told → Command → (input : List ℕ) → Status → List ℕ → Type 0
IsRun told command input status text = (start : Start) × IsStart command input start × IsRunOf told start status text

-- what is told of the joins of the meaning of a command and an input
abbrev pub IsKnown : Command → (input : List ℕ) → Status → List ℕ → Type 0
IsKnown command input status text = (start : Start) × IsStart command input start × IsKnownOf start status text

-- the line of the first fault of an input that is no script
abbrev pub IsRefused : (input : List ℕ) → Status → List ℕ → Type 0
IsRefused input status text = (status ≡ Script) × IsFaultLine input text

-- the canonical listing of an input that is a script
abbrev pub IsListed : (input : List ℕ) → Status → List ℕ → Type 0
IsListed input status text =
    (script : List Task) × IsScriptOf input script × (status ≡ Clean) × (text ≡ listing script)

-- the output of a command
abbrev pub IsCommandOutput : Command → (input : List ℕ) → Status → List ℕ → Type 0
IsCommandOutput (Run workers cells steps strict) input status text =
    IsRefused input status text ⊎ IsRun Report (Run workers cells steps strict) input status text
IsCommandOutput (Plan cells steps strict) input status text =
    IsRefused input status text ⊎ IsRun Report (Plan cells steps strict) input status text
IsCommandOutput list input status text = IsRefused input status text ⊎ IsListed input status text
IsCommandOutput (Judge cells) input status text = IsJudging cells input status text
IsCommandOutput (Gen size workers cells steps) input status text =
    IsRun (Summary size) (Gen size workers cells steps) input status text
IsCommandOutput (Known cells steps) input status text =
    IsRefused input status text ⊎ IsKnown (Known cells steps) input status text
IsCommandOutput (Relay size workers cells) input status text = IsRelayRun size cells status text
IsCommandOutput (Watch workers cells steps) input status text =
    IsRefused input status text ⊎ IsRun Root (Watch workers cells steps) input status text

-- the output: the usage line where the words have no form, and else that of the command that they are
pub data IsOutput (words : List (String Global)) (input : List ℕ) : Status → List ℕ → Type 0 where
  usage : HasNoForm words → IsOutput words input Usage usage_line
  of_command : {status : Status} {text : List ℕ} (command : Command) → IsCommand words command
      → IsCommandOutput command input status text → IsOutput words input status text

-- whether a command takes the input
abbrev pub takes_input : Command → Bool
takes_input (Run workers cells steps strict) = true
takes_input (Plan cells steps strict) = true
takes_input list = true
takes_input (Judge cells) = true
takes_input (Gen size workers cells steps) = false
takes_input (Known cells steps) = true
takes_input (Relay size workers cells) = false
takes_input (Watch workers cells steps) = true

-- the words are a command that takes the input
abbrev pub TakesInput : List (String Global) → Type 0
TakesInput words = (command : Command) × IsCommand words command × (takes_input command ≡ true)

-- whether the command runs tasks over workers
abbrev pub has_workers : Command → Bool
has_workers (Run workers cells steps strict) = true
has_workers (Gen size workers cells steps) = true
has_workers (Relay size workers cells) = true
has_workers (Watch workers cells steps) = true
has_workers _ = false
