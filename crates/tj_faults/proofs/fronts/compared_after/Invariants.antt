use Rattle.std.proofs.Common.{◌≡◌, ◌≤◌, ◌+◌, false, length}
use Rattle.tj_faults.specs.Fronts.{compared_after}
use Rattle.tj_faults.proofs.fronts.compared_after.Given as goal

-- so many are open, and a comparison stands there or not; those of what is left come behind them
abbrev pub invariant-loop-rest : goal.invariant-loop-rest
invariant-loop-rest l = record {
  same : compared_after l.at_end l.opened l.compared l.rest ≡ compared_after l.at_end 0 false l.tokens;
  bound : l.opened + length l.rest ≤ length l.tokens;
}

abbrev pub decreases-loop-rest : goal.decreases-loop-rest
decreases-loop-rest l = length l.rest
