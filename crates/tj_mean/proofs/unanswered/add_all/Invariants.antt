use Rattle.std.proofs.Common.{◌≡◌, ◌++◌}
use Rattle.tj_mean.proofs.unanswered.add_all.Given as goal

-- the children so far are added
abbrev pub invariant-loop-task : goal.invariant-loop-task
invariant-loop-task g l = l.tasks.items ≡ l.initial.tasks.items ++ l.yielded
