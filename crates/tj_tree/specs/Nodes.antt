-- The nodes of a tree that forks build, and nodes of such a tree that are shown.
use Rattle.std.specs.Prelude.{ℕ, ◌≡◌, ◌+◌, ◌-◌, ◌==◌, Bool, if◌then◌else◌, [], ◌∷◌}
use Rattle.tj_tree.specs.declared.node.Node.{Node}
use Rattle.tj_tree.specs.declared.node.NodeId.{NodeId}
use Rattle.tj_tree.specs.Forks.{Fork, Forks, HasTask, IsHistory}

-- the root is its own parent and jump
abbrev pub root_node : Node
root_node = record { parent = record { 0 = 0 }; kid = 0; depth = 0; jump = record { 0 = 0 } }

-- where a child of p jumps: two jumps up from p where these are equally long, else to p (Myers 1983)
abbrev pub jump_from : (ℕ → Node) → NodeId → NodeId
jump_from nodes p =
    let near = (nodes p.0).jump
    in let far = (nodes near.0).jump
    in if (nodes p.0).depth - (nodes near.0).depth == (nodes near.0).depth - (nodes far.0).depth then far else p

-- the node of a fork's child
abbrev pub child_node : (ℕ → Node) → Fork → Node
child_node nodes fork = record {
  parent = record { 0 = fork.parent };
  kid = fork.kid;
  depth = (nodes fork.parent).depth + 1;
  jump = jump_from nodes (record { 0 = fork.parent });
}

-- the node of a task
abbrev pub node_of : Forks → ℕ → Node
node_of [] n = root_node
node_of (fork ∷ earlier) n = if n == fork.child then child_node (node_of earlier) fork else node_of earlier n

-- the tree that the forks build has these nodes
abbrev pub HasNodes : Forks → (ℕ → Node → Type 0) → Type 0
HasNodes forks shown = (n : ℕ) (node : Node) → shown n node → HasTask forks n × (node_of forks n ≡ node)

-- some tree that forks build has these nodes
abbrev pub ArePartOfTree : (ℕ → Node → Type 0) → Type 0
ArePartOfTree shown = (forks : Forks) × (IsHistory forks × HasNodes forks shown)

-- P holds of each tree that forks build and that has these nodes
abbrev pub InEachTree : (ℕ → Node → Type 0) → (Forks → Type 0) → Type 0
InEachTree shown P = (forks : Forks) → IsHistory forks → HasNodes forks shown → P forks

-- where a move from a node leads: by its jump, or to its parent
abbrev pub move_from : Node → Bool → NodeId
move_from node by_jump = if by_jump then node.jump else node.parent
