use Rattle.std.proofs.Common.{◌≡◌, ◌++◌, ℕ, List, length, reverse}
use Rattle.tj_told.proofs.Climbing.{Climbs}
use Rattle.tj_told.proofs.names.has_name.Given as goal

-- the seat knows what it knew, and has come up to this cell by the numbers at the end of the name
abbrev pub invariant-loop-at : goal.invariant-loop-at
invariant-loop-at g l = (parts : List ℕ) × Climbs l.laid.cells l.fn.seat l.seat l.fn.c.0 l.at parts
    × (l.name ≡ l.left ++ reverse parts)

-- one number less is left
abbrev pub decreases-loop-at : goal.decreases-loop-at
decreases-loop-at g l = length l.left
