-- A run of a script whose tasks yield is a run as any other.
use Rattle.tj_program.proofs.Prelude.{crosses, expr_sync, false, script_sync, sendable, stmt_sync}
use Rattle.tj_program.proofs.ClosedRuns.{rests_named}
use Rattle.tj_program.proofs.tests.storm_tests.yielding_report.Goals as goal

-- a body of a script may cross threads
pub run_all-requires-send-B : goal.run_all-requires-send-B
run_all-requires-send-B g c κs within = search (sendable, crosses, expr_sync, stmt_sync, script_sync) depth 40

pub ended_at_rest-requires-send-B : goal.ended_at_rest-requires-send-B
ended_at_rest-requires-send-B g c κs = search (sendable, crosses, expr_sync, stmt_sync, script_sync) depth 40

-- the table's own names of the root and the limits are the run's
pub ended_at_rest-requires-after_bounds : goal.ended_at_rest-requires-after_bounds
ended_at_rest-requires-after_bounds g c κs =
    rests_named _ _ 4096 false c.in-Ok-run_all.rest c.in-Ok-run_all.ensures.rest
