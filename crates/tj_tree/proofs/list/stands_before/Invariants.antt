use Rattle.std.proofs.Common.{◌≡◌, drop, cond}
use Rattle.tj_tree.proofs.Lists.{has, earlier}
use Rattle.tj_tree.proofs.list.stands_before.Given as goal

abbrev pub invariant-loop-task : goal.invariant-loop-task
invariant-loop-task l =
    cond l.passed (has (drop l.task-index l.tasks) l.b) (earlier (drop l.task-index l.tasks) l.a l.b) ≡ earlier
    l.tasks l.a l.b
