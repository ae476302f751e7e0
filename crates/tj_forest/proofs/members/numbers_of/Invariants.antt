use Rattle.std.proofs.Common.{take}
use Rattle.tj_forest.specs.Inner.Numbers.{AreMembers}
use Rattle.tj_forest.proofs.members.numbers_of.Given as goal

-- the members of the cycles so far
abbrev pub invariant-loop-number : goal.invariant-loop-number
invariant-loop-number l = AreMembers (take l.number l.cycles) l.numbers
