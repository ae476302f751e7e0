use Rattle.std.proofs.Common.{take}
use Rattle.tj_mean.specs.WaitIndexes.{AreNext}
use Rattle.tj_mean.proofs.wait_graph.next_tasks.Given as goal

-- the next indexes of the tasks so far
abbrev pub invariant-loop-task : goal.invariant-loop-task
invariant-loop-task l = AreNext l.tasks (take l.task-index l.tasks) l.next.items
