use Rattle.std.proofs.Common.{◌≡◌, ◌++◌, drop, length}
use Rattle.tj_base.proofs.name.Name.numbers.Given as goal

-- the numbers are those of the name that is still to be looked at, and then those behind them
abbrev pub invariant-loop-at : goal.invariant-loop-at
invariant-loop-at l = (l.self ≡ l.at ++ drop (length l.at) l.numbers.items) × (length l.numbers.items ≡ length l.self)

abbrev pub decreases-loop-at : goal.decreases-loop-at
decreases-loop-at l = length l.at
