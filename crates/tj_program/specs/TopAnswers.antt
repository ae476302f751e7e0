-- What the top call answers to words: its clauses as one fact, for whoever hands words on.
use Rattle.std.specs.Prelude.{ℕ, ◌≡◌, ◌↔◌, List, Option, Some, String, IfSome, IsSome}
use Rattle.std.specs.declared.alloc.Global.{Global}
use Rattle.tj_words.specs.declared.closed.RestCell.{RestCell}
use Rattle.tj_program.specs.ClosedRuns.{HasOutcome, HaveWorkers, IsClosedRunOf}
use Rattle.tj_modes.specs.CommandLine.{HasNoForm, IsCommand}
use Rattle.tj_modes.specs.KnownRuns.{KnownJoinsOfMeaningAreAlong}
use Rattle.tj_modes.specs.Output.{IsOutput, IsStart, TakesInput}
use Rattle.tj_modes.specs.Runs.{Start}
use Rattle.tj_modes.specs.StrictRuns.{StrictRunsNeverWait}
use Rattle.tj_modes.specs.Texts.{usage_line}
use Rattle.tj_modes.specs.declared.command.Command.{Command}
use Rattle.tj_modes.specs.declared.command.Command.TheVariants.{Known}
use Rattle.tj_command.specs.Answers.{IsAnswer}
use Rattle.tj_command.specs.declared.status.Status.{Status}

-- What the top call answers to words: what each top call answers, with the input read where a command takes it, and
-- then what is so of runs alone. Of the source this takes the bytes left and the count of faults, before and after,
-- that it is as it was, and that it never fails, before and after; of the sink the bytes that it holds and the count
-- of faults, before and after, the room that it has, and that it is as it was.
pub record IsTopAnswer (words : List (String Global)) (left left_after : Option (List ℕ)) (reads reads_after : ℕ)
    (IsUnread NeverFails NeverFailsAfter : Type 0) (held held_after : Option (List ℕ)) (puts puts_after : ℕ)
    (HasRoom : ℕ → Type 0) (IsUnwritten : Type 0) (status : Status) (closed : Option (List RestCell)) : Type 0 where
  pub answer : IsAnswer (TakesInput words) (TakesInput words → ⊥) (HasNoForm words) (IsOutput words) usage_line left
      left_after reads reads_after IsUnread NeverFails NeverFailsAfter held held_after puts puts_after HasRoom
      IsUnwritten status
  pub never_waits : (command : Command) (input : List ℕ) → IsCommand words command
      → StrictRunsNeverWait command input
  pub known_is_along : (cells steps : ℕ) (input : List ℕ) → IsCommand words (Known cells steps) → (start : Start)
      → IsStart (Known cells steps) input start → KnownJoinsOfMeaningAreAlong start
  pub closed_with : IsSome closed ↔ (HasOutcome status × HaveWorkers words)
  pub closed_run : (input : List ℕ) → (TakesInput words → left ≡ Some input)
      → IfSome closed (IsClosedRunOf words input held held_after status)
  pub closed_cause : IfSome closed (λ cells. (input : List ℕ)
      × IsClosedRunOf words input held held_after status cells)
