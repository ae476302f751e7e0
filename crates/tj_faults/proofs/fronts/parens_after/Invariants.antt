use Rattle.std.proofs.Common.{◌≡◌, ◌≤◌, ◌+◌, length}
use Rattle.tj_faults.specs.Fronts.{parens_after}
use Rattle.tj_faults.proofs.fronts.parens_after.Given as goal

-- so many are open, and those of what is left come behind them
abbrev pub invariant-loop-rest : goal.invariant-loop-rest
invariant-loop-rest l = record {
  same : parens_after l.opened l.rest ≡ parens_after 0 l.tokens;
  bound : l.opened + length l.rest ≤ length l.tokens;
}

abbrev pub decreases-loop-rest : goal.decreases-loop-rest
decreases-loop-rest l = length l.rest
