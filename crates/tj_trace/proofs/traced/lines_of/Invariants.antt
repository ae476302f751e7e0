use Rattle.std.proofs.Common.{◌≡◌, map}
use Rattle.tj_trace.specs.Traces.{line_with}
use Rattle.tj_trace.proofs.traced.lines_of.Given as goal

-- the lines so far are those of the tasks so far
abbrev pub invariant-loop-task : goal.invariant-loop-task
invariant-loop-task l = l.lines.items ≡ map line_with l.yielded
