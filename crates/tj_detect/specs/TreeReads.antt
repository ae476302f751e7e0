-- How many steps a walk up the tree of forks takes.
use Rattle.std.specs.Prelude.{ℕ, ◌+◌, ◌*◌, ◌<◌, ◌≤◌, ◌^◌, List, length, max}
use Rattle.tj_body.specs.declared.point.Reference.{Reference}
use Rattle.tj_words.specs.LawParts.ShownState.{reference_of}

-- the depth of a task, by what the cells are: how many forks lead to it, which its name lists
abbrev pub depth_in : List Reference → ℕ → ℕ
depth_in born t = length (reference_of born t).name

-- with so many binary digits of the greater depth of the two tasks, plus one, these are few steps
abbrev pub IsWithinCost : List Reference → ℕ → ℕ → ℕ → ℕ → Type 0
IsWithinCost born t u old new = (digits : ℕ) → max (depth_in born t) (depth_in born u) + 1 < 2 ^ digits
    → new ≤ old + (16 * digits + 16)
