use Rattle.std.proofs.Common.{◌≡◌, ◌≤◌, [], ◌∷◌, ◌++◌, length, reverse}
use Rattle.tj_base.proofs.climbs.leap_to.Given as goal

-- the numbers are those of the name that is still to be looked at, and then those found, the last one first
abbrev pub invariant-loop-at : goal.invariant-loop-at
invariant-loop-at l = (l.maker ++ l.k ∷ [] ≡ l.at ++ reverse l.numbers.items) × (length l.numbers.items ≤ 64)

abbrev pub decreases-loop-at : goal.decreases-loop-at
decreases-loop-at l = length l.at
