use Rattle.std.proofs.Common.{◌≡◌, ◌++◌}
use Rattle.tj_body.specs.Programs.{rules_of}
use Rattle.tj_trace.specs.Inner.TaskDepths.{IsDepthTaken}
use Rattle.tj_trace.proofs.depths.take_depth.Given as goal

-- the tasks so far are taken, and the others are still to come
abbrev pub invariant-loop-task : goal.invariant-loop-task
invariant-loop-task g l = let b = g.B.Body in (l.fn.tasks.items ≡ l.yielded ++ l.task-iterator.rest.items)
    × IsDepthTaken (rules_of b.places b.awaits b.left b.asks b.then l.strict) l.yielded l.room l.left l.children.items
