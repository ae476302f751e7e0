use Rattle.std.proofs.Common.{true, false, arith}
use Rattle.tj_tree.proofs.Lists.{earlier_tells, earlier_found, earlier_missed}
use Rattle.tj_tree.proofs.list.stands_before.Goals as goal

pub returns-then-task-b : goal.returns-then-task-b
returns-then-task-b c =
    earlier_tells _ _ _ true (earlier_found c.args.tasks.now c.args.a c.args.b c.loop-task.task-index
    c.loop-task.passed (omega arith) c.if-passed.true c.if-task-b.true c.loop-task.invariant)

pub returns : goal.returns
returns c =
    earlier_tells _ _ _ false (earlier_missed c.args.tasks.now c.args.a c.args.b c.loop-task.task-index
    c.loop-task.passed (omega arith) c.loop-task.invariant)
