use Rattle.std.proofs.Common.{false, sym, subst}
use denote.Param.Send.{sendable}
use Rattle.std.proofs.Crossing.{crosses}
use Rattle.tj_body.specs.Points.{IsProper}
use Rattle.tj_body.specs.Programs.{program_of, rules_of}
use Rattle.tj_body.proofs.Proper.{root_proper}
use Rattle.tj_eval.specs.Stands.{placed_asks, placed_awaits, placed_left, placed_places, placed_then}
use Rattle.tj_syntax.proofs.Sends.{expr_sync, stmt_sync, script_sync}
use Rattle.tj_trace.proofs.Sends.{size_sync, sizes_sync}
use Rattle.tj_tests.proofs.full_rounds.makes_three.Goals as goal

-- a body of a script may cross threads
pub root_task-requires-send-B : goal.root_task-requires-send-B
root_task-requires-send-B g c κs =
    search (sendable, crosses, expr_sync, stmt_sync, script_sync, size_sync, sizes_sync) depth 80 fits 30000

pub history-requires-send-B : goal.history-requires-send-B
history-requires-send-B g c κs =
    search (sendable, crosses, expr_sync, stmt_sync, script_sync, size_sync, sizes_sync) depth 80 fits 30000

-- the root's task is proper
pub history-requires-clause-proper : goal.history-requires-clause-proper
history-requires-clause-proper g c κs =
    subst (λ t. IsProper (rules_of placed_places placed_awaits placed_left placed_asks placed_then false) t)
    (sym c.in_ok-task.ensures)
    (root_proper (program_of placed_places placed_awaits placed_left placed_asks placed_then false c.args.root.now)
    c.requires.root)
