use denote.Param.Send.{sendable}
use Rattle.std.proofs.Crossing.{crosses}
use Rattle.tj_syntax.proofs.Sends.{expr_sync, stmt_sync, script_sync}
use Rattle.tj_table_tests.proofs.waits_beside.a_promise_of_a_script_is_waited_for.Goals as goal

-- a body of a script may cross threads
pub run_polled-told-requires-send-B : goal.run_polled-told-requires-send-B
run_polled-told-requires-send-B g c κs = search (sendable, crosses, expr_sync, stmt_sync, script_sync) depth 40
