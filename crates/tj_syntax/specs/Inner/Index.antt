-- A map that has each name's number.
use Rattle.std.specs.Prelude.{◌≡◌, ℕ, ◌≤◌, List, length}
use Rattle.std.specs.Cmp.Lexicographic.{slice_cmp}
use Rattle.std.specs.Ordering.{nat_cmp}
use Rattle.std.specs.BTreeMap.{BTreeMap, get_by}
use denote.Ref.{Bor}
use Rattle.tj_syntax.specs.Marks.{index_of, most_tasks}

-- the map has the names of the list, each with its index there
abbrev pub IsIndexed : List (List ℕ) → BTreeMap (Bor (List ℕ)) ℕ → Type 0
IsIndexed names numbers = (x : List ℕ) → get_by (λ k. slice_cmp nat_cmp x k.now) numbers ≡ index_of names x

-- the same, of as many names as there can be tasks at most
pub record IsInStep (names : List (List ℕ)) (numbers : BTreeMap (Bor (List ℕ)) ℕ) : Type 0 where
  pub indexed : IsIndexed names numbers
  pub few : length names ≤ most_tasks
