use Rattle.std.proofs.Common.{◌-◌, ◌≤◌}
use Rattle.tj_lex.specs.Inner.Spots.{IsSpot}
use Rattle.tj_lex.proofs.whole.spot_at.Given as goal

abbrev pub invariant-bytes : goal.invariant-bytes
invariant-bytes l = IsSpot l.text l.spot × (l.spot.next ≤ l.index)

abbrev pub decreases-bytes : goal.decreases-bytes
decreases-bytes l = l.index - l.spot.next
