-- The rounds, and the meaning of a program with a limit of cells.
use Rattle.std.specs.Prelude.{ℕ, zero, suc, ◌+◌, ◌*◌, ◌<◌, cond, List, [], ◌∷◌, map, length, Some, None}
use Rattle.std.specs.List.{flat_map}
use Rattle.tj_base.specs.ForkOrder.{Name}
use Rattle.tj_body.specs.Names.{same}
use Rattle.tj_body.specs.Programs.{Rules, Program, root_task}
use Rattle.tj_body.specs.History.{Assignment, history}
use Rattle.tj_body.specs.declared.point.Entry.{Entry}
use Rattle.tj_body.specs.declared.point.Task.{Task}
use Rattle.tj_body.specs.declared.point.Point.{Point}

-- what the list says of the cell, where it stands first
abbrev pub entry_in : List (Name × Entry) → Assignment
entry_in [] q = None
entry_in (w ∷ ws) q = cond (same q w.0) (Some w.1) (entry_in ws q)

-- the round that is the meaning with limit N
abbrev pub last_round : ℕ → ℕ
last_round N = 2 * N + 1

module _ {B : Type 0} (rules : Rules B) where
  -- the task and those that come from it by at most d forks after one another
  abbrev pub family : Assignment → ℕ → Task B → List (Task B)
  family V zero t = t ∷ []
  family V (suc d) t = t ∷ flat_map (family V d) (history rules V t).children

  -- what the task's history sets or breaks
  abbrev pub writes_by : Assignment → Task B → List (Name × Entry)
  writes_by V t = (history rules V t).writes

  -- the task's result and the promises that its history makes
  abbrev pub cells_by : Assignment → Task B → List Name
  cells_by V t = t.name ∷ (history rules V t).promises

module _ {B : Type 0} (program : Program B) where
  -- the assignment of round n: what the histories of that round, under the assignment before, set or break
  abbrev pub given : ℕ → Assignment
  given zero = λ q. None
  given (suc n) = entry_in
      (flat_map (writes_by program.rules (given n)) (family program.rules (given n) (suc n) (root_task program.root)))

  -- the tasks of round n: those of depth at most n that come from the root under the assignment before
  abbrev pub tasks : ℕ → List (Task B)
  tasks zero = []
  tasks (suc n) = family program.rules (given n) (suc n) (root_task program.root)

  -- the entries of round n, of which its assignment is made
  abbrev pub entries : ℕ → List (Name × Entry)
  entries zero = []
  entries (suc n) = flat_map (writes_by program.rules (given n)) (tasks (suc n))

  -- the cells of round n: its tasks and the promises that their histories make
  abbrev pub cells : ℕ → List Name
  cells zero = []
  cells (suc n) = flat_map (cells_by program.rules (given n)) (tasks (suc n))

  -- the meaning with limit N: each task's history under the assignment of that round; where the meaning isn't full,
  -- that is the assignment of the round before too, under which the round's entries and cells were made
  abbrev pub meaning : ℕ → List (Point B)
  meaning N = map (history program.rules (given (last_round N))) (tasks (last_round N))

  -- the meaning needs more than N cells
  abbrev pub IsFull : ℕ → Type 0
  IsFull N = N < length (cells (last_round N))
