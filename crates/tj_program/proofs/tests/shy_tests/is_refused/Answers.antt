-- A run over a shy pool is a run as any other.
use Rattle.tj_program.proofs.Prelude.{crosses, expr_sync, false, script_program, script_sync, sendable, stmt_sync}
use Rattle.tj_program.proofs.ClosedRuns.{rests_named}
use Rattle.tj_program.proofs.tests.shy_tests.is_refused.Goals as goal

-- a body of a script may cross threads
pub run_all-requires-send-B : goal.run_all-requires-send-B
run_all-requires-send-B g c κs within = search (sendable, crosses, expr_sync, stmt_sync, script_sync) depth 40

pub ended_at_rest-requires : goal.ended_at_rest-requires
ended_at_rest-requires g c κs = (
  search (sendable, crosses, expr_sync, stmt_sync, script_sync) depth 40,
  rests_named script_program c.in-Ok-main_body.root 4096 false c.in-Ok-run_all.rest c.in-Ok-run_all.ensures.rest,
)
