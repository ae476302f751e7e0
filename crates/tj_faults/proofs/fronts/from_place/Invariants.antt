use Rattle.std.proofs.Common.{◌≡◌, ◌≤◌, length}
use Rattle.tj_faults.specs.Fronts.{from_place}
use Rattle.tj_faults.proofs.fronts.from_place.Given as goal

-- the token stands in what is left
abbrev pub invariant-loop-rest : goal.invariant-loop-rest
invariant-loop-rest l = record {
  same : from_place l.at l.rest ≡ from_place l.at l.tokens;
  bound : length l.rest ≤ length l.tokens;
}

abbrev pub decreases-loop-rest : goal.decreases-loop-rest
decreases-loop-rest l = length l.rest
