use Rattle.std.proofs.Common.{◌≡◌, ◌++◌, map}
use Rattle.tj_body.specs.History.{start}
use Rattle.tj_mean.proofs.handed_on.start_all.Given as goal

-- the children so far begin
abbrev pub invariant-loop-task : goal.invariant-loop-task
invariant-loop-task g l = l.points.items ≡ l.initial.points.items ++ map start l.yielded
