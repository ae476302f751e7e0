use Rattle.std.proofs.Common.{◌≡◌, length, reverse}
use Rattle.std.specs.Cmp.Lexicographic.{slice_cmp}
use Rattle.std.specs.Ordering.{nat_cmp}
use Rattle.tj_base.specs.MapOrder.{map_order}
use Rattle.tj_base.proofs.climbs.map_order.Given as goal

-- the numbers of the names that are still to be looked at decide, the last ones first; they are equally many
abbrev pub invariant-loop-p : goal.invariant-loop-p
invariant-loop-p l = (map_order l.a l.b ≡ slice_cmp nat_cmp (reverse l.p) (reverse l.q)) × (length l.p ≡ length l.q)

abbrev pub decreases-loop-p : goal.decreases-loop-p
decreases-loop-p l = length l.p
