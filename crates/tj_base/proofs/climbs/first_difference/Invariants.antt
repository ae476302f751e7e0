use Rattle.std.proofs.Common.{◌≡◌, ◌+◌, length}
use Rattle.std.specs.Option.{option_or}
use Rattle.tj_base.specs.Differences.{first_difference}
use Rattle.tj_base.proofs.climbs.first_difference.Given as goal

-- the names differ first where those that are still to be looked at do, else where was found
abbrev pub invariant-loop-p : goal.invariant-loop-p
invariant-loop-p l = first_difference l.a l.b ≡ option_or (first_difference l.p l.q) l.found

abbrev pub decreases-loop-p : goal.decreases-loop-p
decreases-loop-p l = length l.p + length l.q
