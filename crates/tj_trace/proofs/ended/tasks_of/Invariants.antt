use Rattle.std.proofs.Common.{◌≡◌, map, take}
use Rattle.tj_trace.specs.Ended.{stopped_in}
use Rattle.tj_trace.proofs.ended.tasks_of.Given as goal

-- the tasks so far are those of the lines so far
abbrev pub invariant-loop-line : goal.invariant-loop-line
invariant-loop-line l = l.tasks.items ≡ map stopped_in (take l.line-index l.lines)
