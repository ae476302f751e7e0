-- Runs under the strict rule of scripts without `get`.
use Rattle.std.specs.Prelude.{ℕ, ◌≡◌, true, List}
use Rattle.tj_eval.specs.Gets.{AreWithoutGet}
use Rattle.tj_lex.specs.declared.token.Token.{Token}
use Rattle.tj_lex.specs.Tokens.{AreTokens}
use Rattle.tj_mean.specs.declared.outcome.Outcome.{Outcome}
use Rattle.tj_mean.specs.OutcomeLaws.{HasNoWait}
use Rattle.tj_syntax.specs.Faults.{kinds_of}
use Rattle.tj_modes.specs.Output.{IsStart}
use Rattle.tj_modes.specs.Runs.{Start, NeedsMore, IsOutcomeOf}
use Rattle.tj_modes.specs.declared.command.Command.{Command}

-- where a command runs a script under the strict rule, and the input's tokens have no keyword `get`, no outcome of the
-- run has a wait
abbrev pub StrictRunsNeverWait : Command → (input : List ℕ) → Type 0
StrictRunsNeverWait command input = (start : Start) → IsStart command input start
    → start.program.rules.strict ≡ true → (tokens : List Token) → AreTokens input tokens
    → AreWithoutGet (kinds_of tokens) → ¬ NeedsMore start → (outcome : Outcome) → IsOutcomeOf start outcome
    → HasNoWait outcome
