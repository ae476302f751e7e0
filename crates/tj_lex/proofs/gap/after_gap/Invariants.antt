use Rattle.std.proofs.Common.{◌-◌, length}
use Rattle.tj_lex.specs.Inner.Spots.{IsSpot, AreApart}
use Rattle.tj_lex.proofs.gap.after_gap.Given as goal

abbrev pub invariant-loop-further : goal.invariant-loop-further
invariant-loop-further l = IsSpot l.text l.spot × AreApart l.text l.fn.from.next l.spot.next

abbrev pub decreases-loop-further : goal.decreases-loop-further
decreases-loop-further l = length l.text - l.spot.next
