-- Moves up a tree from node to node.
use Rattle.std.specs.Prelude.{ℕ, ◌≡◌, ◌++◌}
use Rattle.tj_base.specs.ForkOrder.{Name}
use Rattle.tj_tree.specs.declared.node.Node.{Node}
use Rattle.tj_tree.specs.declared.node.TaskNode.{TaskNode}
use Rattle.tj_tree.specs.Forks.{Forks, HasTask, name_of}

-- the task's node is shown, and its parent and its jump may be looked at
pub record IsKnown (shown : ℕ → Node → Type 0) (may : ℕ → Type 0) (at : TaskNode) : Type 0 where
  pub here : shown at.task.0 at.node
  pub parent : may at.node.parent.0
  pub jump : may at.node.jump.0

-- the task top is n or an ancestor of n
pub record IsAtOrAbove (forks : Forks) (top n : ℕ) : Type 0 where
  pub there : HasTask forks top
  pub rest : Name
  pub goes_on : name_of forks n ≡ name_of forks top ++ rest
