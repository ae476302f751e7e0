use denote.Param.Send.{sendable}
use Rattle.std.proofs.Crossing.{crosses}
use Rattle.tj_syntax.proofs.Sends.{expr_sync, stmt_sync, script_sync}
use Rattle.tj_embed.proofs.script_run.ScriptRun.is_marked.Goals as goal

-- a body of a script may cross threads
pub report_at_rest-requires-send-B : goal.report_at_rest-requires-send-B
report_at_rest-requires-send-B c κs = search (sendable, crosses, expr_sync, stmt_sync, script_sync) depth 40
