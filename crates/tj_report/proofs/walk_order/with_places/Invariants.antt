use Rattle.std.proofs.Common.{◌≡◌, map}
use Rattle.tj_report.proofs.walk_order.with_places.Given as goal

-- the tasks so far
abbrev pub invariant-loop-task : goal.invariant-loop-task
invariant-loop-task l = map (λ p. p.task) l.placed.items ≡ l.yielded
