use Rattle.std.proofs.Common.{length, ◌≤◌}
use Rattle.tj_forest.specs.Inner.Numbers.{AreOwnersFrom}
use Rattle.tj_forest.proofs.owners.owners_of.Given as goal

-- the lines from this number on are entered
abbrev pub invariant-loop-number : goal.invariant-loop-number
invariant-loop-number l = AreOwnersFrom l.lines l.number l.owners × (l.number ≤ length l.lines)

abbrev pub decreases-loop-number : goal.decreases-loop-number
decreases-loop-number l = l.number
