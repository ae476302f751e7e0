use Rattle.std.proofs.Common.{◌≡◌, map}
use Rattle.tj_report.proofs.walk_order.without_places.Given as goal

-- the tasks so far
abbrev pub invariant-loop-one : goal.invariant-loop-one
invariant-loop-one l = l.tasks.items ≡ map (λ p. p.task) l.yielded
