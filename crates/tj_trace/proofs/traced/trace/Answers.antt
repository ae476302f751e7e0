use Rattle.tj_trace.proofs.Prelude.{AreTraced, ap, logged, logged_asks, logged_awaits, logged_left, logged_places}
use Rattle.tj_trace.proofs.Prelude.{logged_program, logged_then, subst, sym, ◌∙◌}
use denote.Param.Send.{sendable}
use Rattle.std.proofs.Crossing.{crosses}
use Rattle.tj_body.specs.Programs.{program_of}
use Rattle.tj_syntax.proofs.Sends.{expr_sync, stmt_sync, script_sync}
use Rattle.tj_trace.proofs.Sends.{size_sync, sizes_sync}
use Rattle.tj_body.specs.Asks.{IsFresh}
use Rattle.tj_trace.proofs.Told.{are_traced, logged_fresh, names_apart}
use Rattle.tj_trace.proofs.traced.trace.Goals as goal

-- a body with notes may cross threads
pub bodies-requires-send-B : goal.bodies-requires-send-B
bodies-requires-send-B c κs =
    search (sendable, crosses, expr_sync, stmt_sync, script_sync, size_sync, sizes_sync) depth 80 fits 30000

-- a body with notes is as fresh as the one without
pub bodies-requires-clause-root : goal.bodies-requires-clause-root
bodies-requires-clause-root c κs =
    subst (IsFresh logged_places logged_awaits logged_left 1)
    (sym (c.in_ok-noting.ensures ∙ ap logged c.in_ok-twin.ensures))
    (logged_fresh c.args.root.now c.requires.root)

pub in_name_order-requires : goal.in_name_order-requires
in_name_order-requires c = names_apart
    (program_of logged_places logged_awaits logged_left logged_asks logged_then c.args.strict c.in_ok-noting.noting)
    c.args.cells c.in_ok-tasks.tasks.items c.in_ok-lines.lines.items c.in_ok-tasks.ensures.told c.in_ok-lines.ensures

pub returns-clause-traced : goal.returns-clause-traced
returns-clause-traced c =
    subst (AreTraced (logged_program c.args.strict c.args.root.now) c.args.cells) (sym c.of-2.ensures)
    (are_traced c.args.strict c.args.root.now c.in_ok-noting.noting
    (c.in_ok-noting.ensures ∙ ap logged c.in_ok-twin.ensures) c.args.cells c.in_ok-tasks.tasks.items
    c.in_ok-lines.lines.items c.in_ok-in_name_order.field-0.items c.in_ok-tasks.ensures.told c.in_ok-lines.ensures
    c.in_ok-in_name_order.ensures.same c.in_ok-in_name_order.ensures.ascend)
