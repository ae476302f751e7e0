-- What stays over looks at the nodes of a tree, and how many looks a walk takes.
use Rattle.std.specs.Prelude.{ℕ, ◌+◌, ◌*◌, ◌^◌, ◌<◌, ◌≤◌, max}
use Rattle.tj_tree.specs.Forks.{Forks}
use Rattle.tj_tree.specs.declared.node.Node.{Node}
use Rattle.tj_tree.specs.Nodes.{ArePartOfTree, node_of}

-- what was shown and what might be looked at still is, and the nodes shown are still part of a tree
pub record GoesOn (shown : ℕ → Node → Type 0) (may : ℕ → Type 0) (shown' : ℕ → Node → Type 0) (may' : ℕ → Type 0) :
    Type 0 where
  pub kept : (n : ℕ) (node : Node) → shown n node → shown' n node
  pub still_may : (n : ℕ) → may n → may' n
  pub tree : ArePartOfTree shown → ArePartOfTree shown'

-- with b binary digits of the greater depth of the two tasks, plus one, at most 16b + 16 steps were added
abbrev pub TakesFewSteps : Forks → ℕ → ℕ → ℕ → ℕ → Type 0
TakesFewSteps forks t u old new = (digits : ℕ)
    → max (node_of forks t).depth (node_of forks u).depth + 1 < 2 ^ digits → new ≤ old + (16 * digits + 16)
