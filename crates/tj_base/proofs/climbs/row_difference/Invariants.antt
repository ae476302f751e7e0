use Rattle.std.proofs.Common.{◌≡◌, length}
use Rattle.tj_base.specs.Differences.{first_difference}
use Rattle.tj_base.proofs.climbs.row_difference.Given as goal

-- what comes after the common beginning decides
abbrev pub invariant-loop-a : goal.invariant-loop-a
invariant-loop-a l = first_difference l.a l.b ≡ first_difference l.initial.a l.initial.b

abbrev pub decreases-loop-a : goal.decreases-loop-a
decreases-loop-a l = length l.a
