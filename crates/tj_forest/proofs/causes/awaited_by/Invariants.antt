use Rattle.std.proofs.Common.{length, ◌≤◌}
use Rattle.tj_forest.specs.Inner.Numbers.{AreAwaitedFrom}
use Rattle.tj_forest.proofs.causes.awaited_by.Given as goal

-- the cycles from this number on are entered
abbrev pub invariant-loop-number : goal.invariant-loop-number
invariant-loop-number l = AreAwaitedFrom l.cycles l.number l.numbers × (l.number ≤ length l.cycles)

abbrev pub decreases-loop-number : goal.decreases-loop-number
decreases-loop-number l = l.number
