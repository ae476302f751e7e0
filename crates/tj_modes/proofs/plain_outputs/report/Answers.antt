use Rattle.tj_modes.proofs.Prelude.{IsRun, Plan, Report, inr}
use Rattle.tj_modes.proofs.Outputs.{if_ok, of_refused}
use Rattle.tj_syntax.specs.View as view
use Rattle.tj_modes.proofs.plain_outputs.report.Goals as goal

pub returns-in-Err : goal.returns-in-Err
returns-in-Err c =
    let limits = c.args.limits in
    of_refused (IsRun Report (Plan limits.cells limits.steps limits.strict)) c.in-Err.fault c.args.input.now
    c.refused.result c.in-Err.ensures.fault c.refused.ensures.status c.refused.ensures.text c.refused.ensures.none

pub returns-in-Ok : goal.returns-in-Ok
returns-in-Ok c = if_ok c.run_by_rounds.result (λ output ran all read.
    inr (ran.0, (view.script c.in-Ok.script, c.in-Ok.ensures.ok all read, ran.1), ran.2)) c.run_by_rounds.ensures
