use Rattle.std.proofs.Common.{length, ◌≤◌}
use Rattle.tj_forest.specs.Inner.Numbers.{AreSettersFrom}
use Rattle.tj_forest.proofs.owners.setters_of.Given as goal

-- the lines from this number on are entered
abbrev pub invariant-loop-number : goal.invariant-loop-number
invariant-loop-number l = AreSettersFrom l.lines l.number l.setters × (l.number ≤ length l.lines)

abbrev pub decreases-loop-number : goal.decreases-loop-number
decreases-loop-number l = l.number
