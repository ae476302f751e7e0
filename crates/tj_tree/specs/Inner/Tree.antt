-- The entries of a fork tree, in the order of their tasks' numbers.
use Rattle.std.specs.Prelude.{ℕ, zero, suc, ◌≡◌, ◌-◌, ◌<◌, ◌≤◌, List, [], ◌∷◌, length, slice_index_or}
use Rattle.tj_tree.specs.declared.tree.Entry.{Entry}
use Rattle.tj_base.specs.declared.cell.TheConstants.{MAX_CELLS}
use Rattle.tj_tree.specs.Forks.{Forks, HasTask, task_count, kid_count, next_fork}
use Rattle.tj_tree.specs.Nodes.{root_node, node_of}

-- the entry of a root without children
abbrev pub root_entry : Entry
root_entry = record { node = root_node; kids = 0 }

-- the forks that made the tasks up to n
abbrev pub forks_up_to : List Entry → ℕ → Forks
forks_up_to entries zero = []
forks_up_to entries (suc n) =
    let node = (slice_index_or entries (suc n) root_entry).node
    in record { parent = node.parent.0; child = suc n; kid = node.kid } ∷ forks_up_to entries n

-- the forks that made all tasks
abbrev pub forks_of : List Entry → Forks
forks_of entries = forks_up_to entries (length entries - 1)

-- each fork took the next numbers, and its parent was there
abbrev pub AreGapless : Forks → Type 0
AreGapless [] = Unit {0}
AreGapless (fork ∷ earlier) = (fork ≡ next_fork earlier fork.parent) × (fork.parent < task_count earlier) × AreGapless
    earlier

-- the entries have the nodes of these forks, and how many children each task has
pub record AreEntriesOf (forks : Forks) (entries : List Entry) : Type 0 where
  pub gapless : AreGapless forks
  pub size : length entries ≡ task_count forks
  pub few : length entries ≤ MAX_CELLS
  pub nodes : (n : ℕ) (d : Entry) → n < length entries → (slice_index_or entries n d).node ≡ node_of forks n
  pub kids : (n : ℕ) (d : Entry) → n < length entries → (slice_index_or entries n d).kids ≡ kid_count forks n

-- a task of the forks may be looked at in their entries
pub record MayLook (forks : Forks) (entries : List Entry) (n : ℕ) : Type 0 where
  pub entries_of : AreEntriesOf forks entries
  pub there : HasTask forks n
