use Rattle.tj_modes.proofs.Prelude.{crosses, expr_sync, refl, script_sync, sendable, start_of, stmt_sync}
use Rattle.tj_modes.proofs.Outputs.{Ran-ended, Ran-full}
use Rattle.tj_modes.proofs.script_run.run_by_rounds.Goals as goal

-- a body of a script may cross threads
pub plan-requires-send-B : goal.plan-requires-send-B
plan-requires-send-B c κs = search (sendable, crosses, expr_sync, stmt_sync, script_sync) depth 40

pub returns-in-Ok : goal.returns-in-Ok
returns-in-Ok c =
    let root = c.in_ok-root.root in
    let limits = c.args.limits in
    Ran-ended (start_of limits.strict limits.cells root) limits _ c.in-Ok.outcome c.ended.result
    (root, c.in_ok-root.ensures.main, refl) c.in-Ok.ensures.fits c.in-Ok.ensures.outcome c.ended.ensures.status
    c.ended.ensures.text

pub returns-in-Err-Full : goal.returns-in-Err-Full
returns-in-Err-Full c =
    let root = c.in_ok-root.root in
    let limits = c.args.limits in
    Ran-full (start_of limits.strict limits.cells root) limits _ c.full.result (root, c.in_ok-root.ensures.main, refl)
    (c.in-Err-Full.ensures.full c.in-Err-Full.field-0-is) c.full.ensures.status c.full.ensures.text
