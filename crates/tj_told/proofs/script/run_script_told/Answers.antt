use denote.Param.Send.{sendable}
use Rattle.std.proofs.Common.{[], None, inl, refl}
use Rattle.std.proofs.Crossing.{crosses}
use Rattle.tj_syntax.proofs.Sends.{expr_sync, stmt_sync, script_sync}
use Rattle.tj_syntax.specs.View as shown
use Rattle.tj_told.proofs.RunFaults.{early_of_script, nothing_heard}
use Rattle.tj_told.proofs.script.run_script_told.Goals as goal

-- a body of a script may cross threads
pub run_told-requires-send-B : goal.run_told-requires-send-B
run_told-requires-send-B g c κs within = search (sendable, crosses, expr_sync, stmt_sync, script_sync) depth 40

pub returns-in-Ok-clause-early : goal.returns-in-Ok-clause-early
returns-in-Ok-clause-early g c = let r = c.run_told in
    early_of_script g.T.Listener.tells c.args.listener r.result.1 (shown.script c.args.script.now) c.args.options
    None c.in-Ok.root c.in-Ok.ensures.main r.result.0 r.ensures.early

pub returns-in-Err-clause-early : goal.returns-in-Err-clause-early
returns-in-Err-clause-early g c = ([], nothing_heard g.T.Listener.tells c.args.listener, inl refl)
