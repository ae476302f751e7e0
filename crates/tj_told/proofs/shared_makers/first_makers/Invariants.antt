use Rattle.std.proofs.Common.{◌≡◌, ◌≤◌, ◌++◌, ℕ, List, length}
use Rattle.tj_told.proofs.shared_makers.first_makers.Given as goal

-- this name has as many numbers at least, and the name goes on from it
abbrev pub invariant-loop-maker : goal.invariant-loop-maker
invariant-loop-maker l = (l.count ≤ length l.at) × ((rest : List ℕ) × (l.name ≡ l.at ++ rest))

abbrev pub decreases-loop-maker : goal.decreases-loop-maker
decreases-loop-maker l = length l.at
