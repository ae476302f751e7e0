use denote.Param.Send.{sendable}
use Rattle.std.proofs.Crossing.{crosses}
use Rattle.tj_syntax.proofs.Sends.{expr_sync, stmt_sync, script_sync}
use Rattle.tj_future.proofs.polls.ScriptBodyPolled.look.Goals as goal

-- a body of a script may cross threads
pub look_at-requires-send-B : goal.look_at-requires-send-B
look_at-requires-send-B g c = search (sendable, crosses, expr_sync, stmt_sync, script_sync) depth 40
