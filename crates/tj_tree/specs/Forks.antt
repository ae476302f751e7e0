-- Forks, and the order of tasks that they build.
use Rattle.std.specs.Prelude.{ℕ, ◌≡◌, ◌<◌, ◌==◌, ◌+◌, ◌⊎◌, if◌then◌else◌, List, [], ◌∷◌, Some, slice_get, length, count_by, Contains, ◌≤◌}
use Rattle.tj_base.specs.declared.cell.TheConstants.{MAX_CELLS}
use Rattle.tj_base.specs.ForkOrder.{Name, child}

-- a fork: the parent, the number of the child, and which of the parent's things the child is
pub record Fork : Type 0 where
  pub parent : ℕ
  pub child : ℕ
  pub kid : ℕ

-- forks, the newest first
abbrev pub Forks : Type 0
Forks = List Fork

-- the list with c directly after b
abbrev pub insert_after : ℕ → ℕ → List ℕ → List ℕ
insert_after b c [] = []
insert_after b c (x ∷ xs) = if x == b then x ∷ c ∷ xs else x ∷ insert_after b c xs

-- the fork order: the root alone, and then each child directly after its parent
abbrev pub order_of : Forks → List ℕ
order_of [] = 0 ∷ []
order_of (fork ∷ earlier) = insert_after fork.parent fork.child (order_of earlier)

-- the list has each number below its length, and isn't too long
pub record IsNumbering (order : List ℕ) : Type 0 where
  pub each : (n : ℕ) → n < length order → Contains order n
  pub few : length order ≤ MAX_CELLS

-- a stands in the list before b
pub record IsEarlier (order : List ℕ) (a b : ℕ) : Type 0 where
  pub index : ℕ
  pub further : ℕ
  pub before : index < further
  pub at_index : slice_get order index ≡ Some a
  pub at_further : slice_get order further ≡ Some b

-- the task is there: the root, or the child of a fork
abbrev pub HasTask : Forks → ℕ → Type 0
HasTask [] n = n ≡ 0
HasTask (fork ∷ earlier) n = (n ≡ fork.child) ⊎ HasTask earlier n

-- one of the parent's children has this kid number
abbrev pub HasKid : Forks → ℕ → ℕ → Type 0
HasKid [] parent kid = ⊥
HasKid (fork ∷ earlier) parent kid = ((fork.parent ≡ parent) × (fork.kid ≡ kid)) ⊎ HasKid earlier parent kid

-- the fork can come next: its parent is there, and the child's numbers are greater than those given before
pub record IsNext (fork : Fork) (earlier : Forks) : Type 0 where
  pub parent_there : HasTask earlier fork.parent
  pub newest : (n : ℕ) → HasTask earlier n → n < fork.child
  pub last_kid : (kid : ℕ) → HasKid earlier fork.parent kid → kid < fork.kid

-- each fork could come next
abbrev pub IsHistory : Forks → Type 0
IsHistory [] = Unit {0}
IsHistory (fork ∷ earlier) = IsNext fork earlier × IsHistory earlier

-- a task's name: the root's is empty, and a child's is its parent's and its kid number
abbrev pub name_of : Forks → ℕ → Name
name_of [] n = []
name_of (fork ∷ earlier) n = if n == fork.child then child (name_of earlier fork.parent) fork.kid else name_of earlier n

-- how many tasks there are: the root, and a child of each fork
abbrev pub task_count : Forks → ℕ
task_count forks = length forks + 1

-- how many children a task has
abbrev pub kid_count : Forks → ℕ → ℕ
kid_count forks n = count_by (λ fork. fork.parent == n) forks

-- the next fork by this parent, where tasks and the children of each are numbered as they come
abbrev pub next_fork : Forks → ℕ → Fork
next_fork earlier parent = record { parent = parent; child = task_count earlier; kid = kid_count earlier parent + 1 }
