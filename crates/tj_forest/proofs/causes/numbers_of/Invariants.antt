use Rattle.std.proofs.Common.{length, ◌≤◌}
use Rattle.tj_forest.specs.Inner.Numbers.{AreRootsFrom}
use Rattle.tj_forest.proofs.causes.numbers_of.Given as goal

-- the causes from this number on are entered
abbrev pub invariant-loop-number : goal.invariant-loop-number
invariant-loop-number l = AreRootsFrom l.trees l.number l.numbers × (l.number ≤ length l.trees)

abbrev pub decreases-loop-number : goal.decreases-loop-number
decreases-loop-number l = l.number
