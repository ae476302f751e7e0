use denote.Param.Send.{sendable}
use Rattle.std.proofs.Crossing.{crosses}
use Rattle.tj_syntax.proofs.Sends.{expr_sync, stmt_sync, script_sync}
use Rattle.tj_trace.proofs.Sends.{size_sync, sizes_sync}
use Rattle.tj_tests.proofs.full_rounds.is_told.Goals as goal

-- a body of a script may cross threads
pub first_full-requires-send-B : goal.first_full-requires-send-B
first_full-requires-send-B g c κs =
    search (sendable, crosses, expr_sync, stmt_sync, script_sync, size_sync, sizes_sync) depth 80 fits 30000
