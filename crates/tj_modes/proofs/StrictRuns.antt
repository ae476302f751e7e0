-- Strict runs of scripts without `get`, from the laws of the crates below.
use Rattle.tj_modes.proofs.Prelude.{Answer, AreTokens, Bool, Command, Global, HasLimits, IsCommand, IsOutcomeOf}
use Rattle.tj_modes.proofs.Prelude.{IsScript, IsStartOf, IsStartOfText, Limits, List, NeedsMore, Outcome, Start, Task}
use Rattle.tj_modes.proofs.Prelude.{TaskState, Tok, Token, ap, false≢true, kinds_of, start_of, sym, ℕ, ◌∙◌, ◌≡◌, ◌≤◌}
use Rattle.std.proofs.Common.{true, String, IsTrue, subst, arith}
use Rattle.tj_body.specs.Asks.{IsFresh}
use Rattle.tj_body.specs.Programs.{rules_of}
use Rattle.tj_body.specs.NeverWaits.{IsNoGet, IsWithoutGet}
use Rattle.tj_eval.specs.declared.body.TheConstants.{MAX_STEPS}
use Rattle.tj_eval.specs.Bodies.{IsMainBody, script_places, script_awaits, script_left, script_asks, script_then}
use Rattle.tj_eval.specs.Gets.{asks_no_get, AreWithoutGet}
use Rattle.tj_eval.specs.Inner.Laws.{fresh-main}
use Rattle.tj_eval.proofs.Programs.{few-script}
use Rattle.tj_mean.specs.OutcomeLaws.{HasNoWait}
use Rattle.tj_modes.specs.StrictRuns.{StrictRunsNeverWait}
use Rattle.tj_modes.proofs.Lines.CommandLines.{within_limits}
use Rattle.tj_modes.specs.declared.command.Command.TheVariants as command

-- the body of a script's root has asked nothing yet
pub fresh-root : (tokens : List Tok) (script : List Task) (steps : ℕ) (root : TaskState) → IsScript tokens script
    → IsMainBody script steps root → steps ≤ MAX_STEPS
    → IsFresh script_places script_awaits script_left 1 root
fresh-root tokens script steps root is main few = subst (IsFresh script_places script_awaits script_left 1) (sym main.2)
    (fresh-main script steps main.0 (few-script tokens script is) (omega arith))

pub IsWithoutGet-script : ((task : TaskState) (a : Answer) → IsTrue (asks_no_get task)
    → IsNoGet asks_no_get (script_asks task a) × IsTrue (asks_no_get (script_then task a)))
    → (strict : Bool) → IsWithoutGet
    (rules_of script_places script_awaits script_left script_asks script_then strict) asks_no_get
IsWithoutGet-script law strict b a calm fits = law b a calm

-- of each script under limits that the program allows
abbrev pub OfScripts : Type 0
OfScripts = (limits : Limits) → limits.steps ≤ MAX_STEPS → (input : List ℕ) (start : Start)
    → IsStartOfText limits input start → start.program.rules.strict ≡ true → (tokens : List Token)
    → AreTokens input tokens → AreWithoutGet (kinds_of tokens) → ¬ NeedsMore start → (outcome : Outcome)
    → IsOutcomeOf start outcome → HasNoWait outcome

-- a start under the strict rule is the start with that rule
pub strictly_started : (limits : Limits) (script : List Task) (start : Start) (is : IsStartOf limits script start)
    → start.program.rules.strict ≡ true → start ≡ start_of true limits.cells is.0
strictly_started limits script start is strict =
    let rule : limits.strict ≡ true = sym (ap (λ s. s.program.rules.strict) is.2) ∙ strict in
    is.2 ∙ ap (λ s. start_of s limits.cells is.0) rule

-- of a command whose numbers are within their limits
pub never_waits : OfScripts → (c : Command) (input : List ℕ) → HasLimits c → StrictRunsNeverWait c input
never_waits law (command.Run workers cells steps strict) input fits =
    law (record { cells = cells; steps = steps; strict = strict }) fits.2.1 input
never_waits law (command.Plan cells steps strict) input fits =
    law (record { cells = cells; steps = steps; strict = strict }) fits.1.1 input
never_waits law command.List input fits = λ start is. absurd is
never_waits law (command.Judge cells) input fits = λ start is. absurd is
never_waits law (command.Relay size workers cells) input fits = λ start is. absurd is
never_waits law other input fits = λ start is strict.
    absurd (false≢true (sym (ap (λ s. s.program.rules.strict) is.2.2) ∙ strict))

-- the same of words
pub never_waits-words : ((c : Command) (input : List ℕ) → HasLimits c → StrictRunsNeverWait c input)
    → (words : List (String Global)) (c : Command) (input : List ℕ) → IsCommand words c → StrictRunsNeverWait c input
never_waits-words law words c input is = law c input (within_limits words c is)
