-- Who owns each cell, as a list.
use Rattle.std.specs.Prelude.{◌≡◌, ℕ, ◌<◌, cond, List, length, Option, Some, None, slice_index_or, count_by}
use Rattle.tj_events.specs.Events.{is_owner}

-- who owns a cell: nobody owns one past the end
abbrev pub owner_in : List (Option ℕ) → ℕ → Option ℕ
owner_in owners c = slice_index_or owners c None

-- 1 where the owner is t, else 0
abbrev pub one_if : Option ℕ → ℕ → ℕ
one_if o t = cond (is_owner o t) 1 0

-- how many cells a task owns
abbrev pub owned_count : List (Option ℕ) → ℕ → ℕ
owned_count owners t = count_by (λ o. is_owner o t) owners

-- the list counts for each task how many cells it owns
abbrev pub AreCounts : List (Option ℕ) → List ℕ → Type 0
AreCounts owners counts = (t : ℕ) → t < length counts → slice_index_or counts t 0 ≡ owned_count owners t

-- each owner is a cell of the list
abbrev pub AreOwnersInside : List (Option ℕ) → ℕ → Type 0
AreOwnersInside owners cells = (c u : ℕ) → owner_in owners c ≡ Some u → u < cells

-- an owner is a cell of the list
abbrev pub IsInside : Option ℕ → ℕ → Type 0
IsInside o cells = (u : ℕ) → o ≡ Some u → u < cells
