-- What a command gives, with the closed words of its run where it ran tasks over workers.
use Rattle.std.specs.Prelude.{ℕ, ◌≡◌, ◌<◌, ◌⊎◌, ◌↔◌, true, List, length, Option, None, IfSome, IsSome, MatchOption}
use Rattle.std.specs.Io.KnownBytes.{Appends}
use Rattle.tj_ports.specs.Faults.{HasFault}
use Rattle.tj_ports.specs.Putting.{GrowsByPart}
use Rattle.tj_words.specs.declared.closed.RestCell.{RestCell}
use Rattle.tj_program.specs.ClosedRuns.{HasOutcome, IsCommandClosed, IsRunClosed}
use Rattle.tj_modes.specs.Output.{IsCommandOutput, IsRefused, IsStartOfText, has_workers}
use Rattle.tj_modes.specs.Runs.{Start, StartOf, NeedsMore}
use Rattle.tj_modes.specs.Texts.{full_line}
use Rattle.tj_modes.specs.declared.command.Command.{Command}
use Rattle.tj_modes.specs.declared.script_run.Told.{Told}
use Rattle.tj_command.specs.declared.limits.Limits.{Limits}
use Rattle.tj_command.specs.declared.status.Status.{Status}
use Rattle.tj_command.specs.declared.status.Status.TheVariants.{Full, WriteFault}

-- what a run over workers gives: the line that it is full, or an outcome as it is told and closed words of the same run
abbrev pub IsRunGiven : {B : Type 0} → Told → StartOf B → Status → List ℕ → Option (List RestCell) → Type 0
IsRunGiven told start status text closed =
    MatchOption closed (NeedsMore start × (status ≡ Full) × (text ≡ full_line start.cells))
    (IsRunClosed told start status text)

-- what is given of an input: the line of its fault where it is no script, or else what the run of it under these
-- limits gives over workers, as it is told
abbrev pub IsScriptGiven : Told → Limits → (input : List ℕ) → Status → List ℕ → Option (List RestCell) → Type 0
IsScriptGiven told limits input status text closed = (IsRefused input status text × (closed ≡ None))
    ⊎ ((start : Start) × IsStartOfText limits input start × IsRunGiven told start status text closed)

-- closed words come with a status exactly where it is that of an outcome of a run over workers
abbrev pub AreWith : Command → Status → Option (List RestCell) → Type 0
AreWith command status closed = IsSome closed ↔ (HasOutcome status × (has_workers command ≡ true))

-- the output of a command, and the closed words that come with it, which are of the same run
pub record IsGiven (command : Command) (input : List ℕ) (status : Status) (text : List ℕ)
    (closed : Option (List RestCell)) : Type 0 where
  pub is_output : IsCommandOutput command input status text
  pub are_with : AreWith command status closed
  pub of_run : IfSome closed (IsCommandClosed command input status text)

-- The text was put whole, and its status and its closed words are answered; or the sink failed before the text's end,
-- and had no room for it without a fault, and no closed words are.
abbrev pub IsPutWith : (HasRoom : ℕ → Type 0) → Status → List ℕ → Option (List RestCell) → Option (List ℕ)
    → Option (List ℕ) → ℕ → ℕ → Status → Option (List RestCell) → Type 0
IsPutWith HasRoom status text closed before after count_before count_after answer words =
    ((answer ≡ status) × (words ≡ closed) × Appends before after text)
    ⊎ ((answer ≡ WriteFault) × (words ≡ None) × GrowsByPart before after text × HasFault count_before count_after
    × ((room : ℕ) → HasRoom room → room < length text))
