use Rattle.std.proofs.Common.{◌-◌, vec_len}
use Rattle.tj_trace.proofs.FoundTasks.{IsPushed}
use Rattle.tj_trace.proofs.found.push_forked.Given as goal

-- the children that were taken from the end are pending
abbrev pub invariant-loop-task : goal.invariant-loop-task
invariant-loop-task g l = IsPushed (l.depth - 1) l.fn.makers.items l.makers.items l.fn.children.items l.children.items
    l.initial.pending.items l.pending.items

abbrev pub decreases-loop-task : goal.decreases-loop-task
decreases-loop-task g l = vec_len l.children
