use denote.Param.Send.{sendable}
use Rattle.std.proofs.Crossing.{crosses}
use Rattle.tj_syntax.proofs.Sends.{expr_sync, stmt_sync, script_sync}
use Rattle.tj_embed.proofs.script_run.run_script.Goals as goal

-- a body of a script may cross threads
pub run-requires-send-B : goal.run-requires-send-B
run-requires-send-B g c κs = search (sendable, crosses, expr_sync, stmt_sync, script_sync) depth 40
