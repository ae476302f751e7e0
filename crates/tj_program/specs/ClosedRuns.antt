-- Runs over workers: the closed words of the table that come with a text and a status, and that they are of one run.
use Rattle.std.specs.Prelude.{ℕ, ◌≡◌, Bool, true, List, Option, String}
use Rattle.std.specs.Io.KnownBytes.{Appends}
use Rattle.std.specs.declared.alloc.Global.{Global}
use Rattle.tj_body.specs.Programs.{Program, Rules}
use Rattle.tj_mean.specs.declared.outcome.Outcome.{Outcome}
use Rattle.tj_mean.specs.Outcomes.{is_marked}
use Rattle.tj_report.specs.ClosedOutcomes.{AreCyclesOfOutcomeAlarmed}
use Rattle.tj_run.specs.Runs.{AreEndOfRun}
use Rattle.tj_words.specs.AtRest.ClosedCells.{AreAtRest, AreCyclesAlarmed, AreAlarmsOnCycles}
use Rattle.tj_words.specs.AtRest.RestMeaning.{HaveWords}
use Rattle.tj_words.specs.declared.closed.RestCell.{RestCell}
use Rattle.tj_modes.specs.CommandLine.{IsCommand}
use Rattle.tj_modes.specs.Output.{IsStart, has_workers}
use Rattle.tj_modes.specs.RelayRuns.{relay_start}
use Rattle.tj_modes.specs.Runs.{Start, StartOf, NeedsMore, IsOutcomeOf, status_of, text_of}
use Rattle.tj_modes.specs.declared.command.Command.{Command}
use Rattle.tj_modes.specs.declared.command.Command.TheVariants.{Gen, Relay, Watch}
use Rattle.tj_modes.specs.declared.script_run.Told.{Told}
use Rattle.tj_modes.specs.declared.script_run.Told.TheVariants.{Report, Root, Summary}
use Rattle.tj_command.specs.declared.status.Status.{Status}
use Rattle.tj_command.specs.declared.status.Status.TheVariants.{Clean, Marked}

-- the status is that of an outcome
abbrev pub HasOutcome : Status → Type 0
HasOutcome Clean = Unit {0}
HasOutcome Marked = Unit {0}
HasOutcome _ = ⊥

-- the words are a command that runs tasks over workers
abbrev pub HaveWorkers : List (String Global) → Type 0
HaveWorkers words = (command : Command) × IsCommand words command × (has_workers command ≡ true)

-- how a command tells the outcome of what it runs
abbrev pub told_of : Command → Told
told_of (Gen size workers cells steps) = Summary size
told_of (Watch workers cells steps) = Root
told_of _ = Report

module _ {B : Type 0} where
  -- the program of a root whose tasks go by these rules, under the rule for joins that is given
  abbrev pub program_by : Rules B → Bool → B → Program B
  program_by rules strict root = record { rules = record rules { strict = strict }; root = root }

  -- Status, text and closed words are of one run. It isn't full; the text and the status are those of its outcome; the
  -- words are at rest, and are those of its meaning. Each cycle, of the outcome and of the words, has a member that has
  -- alarmed, and each task that has alarmed is on a cycle.
  pub record IsRunClosed (told : Told) (start : StartOf B) (status : Status) (text : List ℕ) (closed : List RestCell)
      : Type 0 where
    pub fits : ¬ NeedsMore start
    pub outcome : Outcome
    pub is : IsOutcomeOf start outcome
    pub status_is : status ≡ status_of (is_marked outcome)
    pub text_is : text ≡ text_of told outcome
    pub words : HaveWords start.program start.cells closed
    -- and they are the end of a run of a table for this root and rule, from its first state
    pub run : AreEndOfRun (program_by start.program.rules) start.program.root start.cells
        start.program.rules.strict closed
    pub rest : AreAtRest closed
    pub alarmed : AreCyclesOfOutcomeAlarmed closed outcome
    pub cycles : AreCyclesAlarmed closed
    pub alarms : AreAlarmsOnCycles closed

-- status, text and closed words are of one run of a command and an input: of a relay over promises, or of a script
abbrev pub IsCommandClosed : Command → (input : List ℕ) → Status → List ℕ → (closed : List RestCell) → Type 0
IsCommandClosed (Relay size workers cells) input status text closed =
    IsRunClosed Report (relay_start size cells) status text closed
IsCommandClosed command input status text closed =
    (start : Start) × IsStart command input start × IsRunClosed (told_of command) start status text closed

-- closed words of the run of a command and an input, whose text was put whole and whose status this is
abbrev pub IsClosedRun : Command → (input : List ℕ) → (before after : Option (List ℕ)) → Status
    → (closed : List RestCell) → Type 0
IsClosedRun command input before after status closed =
    (text : List ℕ) × IsCommandClosed command input status text closed × Appends before after text

-- the same of the command that the words are
abbrev pub IsClosedRunOf : List (String Global) → (input : List ℕ) → (before after : Option (List ℕ)) → Status
    → (closed : List RestCell) → Type 0
IsClosedRunOf words input before after status closed =
    (command : Command) × IsCommand words command × IsClosedRun command input before after status closed
