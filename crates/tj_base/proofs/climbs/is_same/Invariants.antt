use Rattle.std.proofs.Common.{◌≡◌, length, nat_eq}
use Rattle.std.specs.Cmp.Lexicographic.{pointwise}
use Rattle.tj_base.proofs.climbs.is_same.Given as goal

-- the names are the same where those that are still to be looked at are, which are of one length
abbrev pub invariant-loop-p : goal.invariant-loop-p
invariant-loop-p l = (pointwise nat_eq l.a l.b ≡ pointwise nat_eq l.p l.q)
    × (length l.p ≡ length l.q)

abbrev pub decreases-loop-p : goal.decreases-loop-p
decreases-loop-p l = length l.p
