use Rattle.std.proofs.Common.{◌≡◌, map}
use Rattle.tj_mean.proofs.told.lines_of.Given as goal

-- the lines of the tasks so far
abbrev pub invariant-loop-task : goal.invariant-loop-task
invariant-loop-task l = l.lines.items ≡ map (λ s. s.line) l.yielded
