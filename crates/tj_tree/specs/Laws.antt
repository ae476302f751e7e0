-- Laws of the fork order.
use Rattle.std.specs.Prelude.{ℕ, ◌≡◌, ◌≢◌, ◌<◌, ◌⊎◌, ◌↔◌, ◌++◌, IsTrue}
use Rattle.tj_base.specs.ForkOrder.{Name, child, before, IsAncestor}
use Rattle.tj_tree.specs.Forks.{Forks, HasTask, IsHistory, IsEarlier, order_of, name_of}
use Rattle.tj_tree.specs.Nodes.{node_of}

-- later forks never change the order of two tasks that are there
abbrev pub LaterForksKeepOrder : Type 0
LaterForksKeepOrder = (later forks : Forks) (a b : ℕ) → IsHistory (later ++ forks) → HasTask forks a
    → HasTask forks b → IsEarlier (order_of (later ++ forks)) a b ↔ IsEarlier (order_of forks) a b

-- no task is before itself
abbrev pub NoneIsBeforeItself : Type 0
NoneIsBeforeItself = (forks : Forks) (a : ℕ) → IsHistory forks → IsEarlier (order_of forks) a a → ⊥

-- what is before a task is before all that the task is before
abbrev pub OrderIsTransitive : Type 0
OrderIsTransitive = (forks : Forks) (a b c : ℕ) → IsHistory forks → IsEarlier (order_of forks) a b
    → IsEarlier (order_of forks) b c → IsEarlier (order_of forks) a c

-- of two tasks one is before the other
abbrev pub OrderIsTotal : Type 0
OrderIsTotal = (forks : Forks) (a b : ℕ) → IsHistory forks → HasTask forks a → HasTask forks b → a ≢ b
    → IsEarlier (order_of forks) a b ⊎ IsEarlier (order_of forks) b a

-- a task is before another exactly where its name is before the other's name
abbrev pub OrderIsThatOfNames : Type 0
OrderIsThatOfNames = (forks : Forks) (a b : ℕ) → IsHistory forks → HasTask forks a → HasTask forks b
    → IsTrue (before (name_of forks a) (name_of forks b)) ↔ IsEarlier (order_of forks) a b

-- the name is that of the top or of a descendant
pub record IsInSubtree (top name : Name) : Type 0 where
  pub rest : Name
  pub goes_on : name ≡ top ++ rest

-- a sibling that was forked earlier
pub record IsEarlierSibling (sibling task : Name) : Type 0 where
  pub parent : Name
  pub earlier : ℕ
  pub later : ℕ
  pub sibling_is : sibling ≡ child parent earlier
  pub task_is : task ≡ child parent later
  pub smaller : earlier < later

-- b is in the subtree of a sibling that was forked earlier than a, or than one of its ancestors
pub record IsInEarlierBranch (a b : Name) : Type 0 where
  pub at_or_above : Name
  pub sibling : Name
  pub a_in : IsInSubtree at_or_above a
  pub earlier : IsEarlierSibling sibling at_or_above
  pub b_in : IsInSubtree sibling b

-- a task is before exactly its descendants and those in such a subtree
abbrev pub NamesTellOrder : Type 0
NamesTellOrder = (a b : Name) → IsTrue (before a b) ↔ (IsAncestor a b ⊎ IsInEarlierBranch a b)

-- the parent and the jump of a task are tasks
abbrev pub LinksLeadToTasks : Type 0
LinksLeadToTasks = (forks : Forks) (n : ℕ) → IsHistory forks → HasTask forks n
    → HasTask forks (node_of forks n).parent.0 × HasTask forks (node_of forks n).jump.0
