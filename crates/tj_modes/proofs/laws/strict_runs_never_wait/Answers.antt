use Rattle.tj_modes.proofs.Prelude.{IsOutcomeOf, IsScript, NeedsMore, Ok, asks_no_get, crosses, expr_sync, kinds_of}
use Rattle.tj_modes.proofs.Prelude.{script_sync, sendable, stmt_sync, subst, true, ◌≡◌}
use Rattle.tj_command.proofs.Scripts.{ok_is}
use Rattle.tj_modes.proofs.StrictRuns.{OfScripts, fresh-root, IsWithoutGet-script, never_waits, strictly_started}
use Rattle.tj_modes.proofs.laws.strict_runs_never_wait.Goals as goal

of_scripts : goal.After-strict_outcome_has_no_wait → OfScripts
of_scripts c = λ limits few input start is strict tokens has without more outcome told.
    let same : is.1.tokens ≡ tokens =
    ok_is is.1.tokens tokens (c.one_answer.ensures input (Ok is.1.tokens) (Ok tokens) is.1.has_tokens has) in
    let script : IsScript (kinds_of tokens) is.0 = subst (λ l. IsScript (kinds_of l) is.0) same is.1.is_script in
    let no_get = c.scripts_without_the_keyword.ensures (kinds_of tokens) is.0 script without in
    let root = is.2.0 in
    let begins = strictly_started limits is.0 start is.2 strict in
    c.strict_outcome_has_no_wait.ensures true root
    (fresh-root (kinds_of tokens) is.0 limits.steps root script is.2.1 few) asks_no_get
    (IsWithoutGet-script c.no_get.ensures.asks true) (c.no_get.ensures.main is.0 limits.steps root no_get is.2.1)
    limits.cells (subst (λ s. ¬ NeedsMore s) begins more) outcome (subst (λ s. IsOutcomeOf s outcome) begins told)

pub returns : goal.returns
returns c = never_waits (of_scripts c)

-- a body of a script may cross threads
pub strict_outcome_has_no_wait-requires-send-B : goal.strict_outcome_has_no_wait-requires-send-B
strict_outcome_has_no_wait-requires-send-B c κs = search (sendable, crosses, expr_sync, stmt_sync, script_sync) depth 40
