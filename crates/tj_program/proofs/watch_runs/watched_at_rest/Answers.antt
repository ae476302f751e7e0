use Rattle.tj_program.proofs.Prelude.{Root, ap, crosses, expr_sync, script_program, script_sync, sendable, status_of}
use Rattle.tj_program.proofs.Prelude.{stmt_sync, ◌∙◌}
use Rattle.tj_program.proofs.ClosedRuns.{closed_at_rest}
use Rattle.tj_program.proofs.RootLines.{watch_tells}
use Rattle.tj_program.proofs.watch_runs.watched_at_rest.Goals as goal

-- a body of a script may cross threads
pub into_closed_at_end-requires-send-B : goal.into_closed_at_end-requires-send-B
into_closed_at_end-requires-send-B c κs = search (sendable, crosses, expr_sync, stmt_sync, script_sync) depth 40

pub outcome_of-requires : goal.outcome_of-requires
outcome_of-requires c κs =
    (search (sendable, crosses, expr_sync, stmt_sync, script_sync) depth 40, c.requires.rest.meaning)

pub watch_line-requires : goal.watch_line-requires
watch_line-requires c = watch_tells (script_program c.args.rest.strict c.args.rest.root) c.args.rest.limit
    c.args.rest.cells c.args.rest.records c.requires.rest.meaning c.in_ok-outcome.outcome
    c.in_ok-outcome.ensures.outcome c.args.watched c.requires.watched

pub returns : goal.returns
returns c = closed_at_rest (script_program c.args.rest.strict c.args.rest.root).rules Root c.args.rest
    c.in_ok-outcome.outcome _ _ _ c.requires.rest
    c.in_ok-outcome.ensures.outcome (c.in_ok-outcome.ensures.alarmed c.requires.rest.meant_cycles)
    (c.status_of-status.ensures ∙ ap status_of c.marked.ensures) c.in_ok-text.ensures c.into_closed_at_end.ensures.same
