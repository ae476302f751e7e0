-- Which indexes were met on walks along a wait graph.
use Rattle.std.specs.Prelude.{◌≡◌, ℕ, Bool, true, false, List, Option, Some, None, slice_index_or}
use Rattle.tj_body.specs.Points.{IsIn}
use Rattle.tj_mean.specs.Inner.Indexes.{IsLeastCycle}

-- the index was met, in some round
abbrev pub IsMet : List (Option ℕ) → ℕ → Type 0
IsMet met i = (round : ℕ) × (slice_index_or met i None ≡ Some round)

-- one of the indexes was met
abbrev pub IsMetOn : List (Option ℕ) → List ℕ → Type 0
IsMetOn met indexes = (i : ℕ) × IsIn i indexes × IsMet met i

-- the list tells each index that is the least one of a cycle
abbrev pub AreLeastTold : List (Option ℕ) → List Bool → Type 0
AreLeastTold next least = (first : ℕ) (indexes : List ℕ) → IsLeastCycle next first indexes
    → slice_index_or least first false ≡ true
