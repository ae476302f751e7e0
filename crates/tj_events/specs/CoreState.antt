-- The state of the core: what each cell is and who owns it, and what each task does.
-- Cells and tasks stand by their numbers; a task and its result are one cell.
use Rattle.std.specs.Prelude.{◌≡◌, ℕ, ◌<◌, Bool, true, false, List, [], ◌∷◌, Option, Some, None}
use Rattle.tj_base.specs.ForkOrder.{Name}
use Rattle.tj_base.specs.Puts.{put}
use Rattle.tj_events.specs.declared.walk.Way.{Way}
use Rattle.tj_events.specs.declared.walk.TrailLink.{TrailLink}
use Rattle.tj_events.specs.declared.walk.Walker.{Walker}

-- what a task that waits does: it walks, its walk has ended without an alarm, or it has alarmed
pub data WaitStage : Type 0 where
  walks : Walker → WaitStage
  parked : WaitStage
  alarmed : WaitStage

-- what a cell is: a promise, or a task by what it does. A task that waits does so for a cell, along or not
pub data CellStage : Type 0 where
  promise : CellStage
  fresh : CellStage
  running : CellStage
  raised : CellStage
  waits : ℕ → Way → WaitStage → CellStage
  ended : CellStage

-- a cell: the task that made it, its name, how many things it made itself, its owner, and what it is
pub record CellState : Type 0 where
  pub maker : ℕ
  pub name : Name
  pub made : ℕ
  pub owner : Option ℕ
  pub stage : CellStage

-- every cell by its number
abbrev pub Cells : Type 0
Cells = ℕ → CellState

-- the cells below `count` are there, the others are blank; OTHERS; the waits cleared and not yet lowered
pub record CoreState : Type 0 where
  pub count : ℕ
  pub cells : Cells
  pub others : ℕ
  pub cleared : ℕ

-- a cell that isn't there: a promise that nobody owns. So a task, and a cell that somebody owns, is there
abbrev pub blank : CellState
blank = record { maker = 0; name = []; made = 0; owner = None; stage = promise }

-- the root task, which is its own maker and owns its result
abbrev pub root : CellState
root = record { maker = 0; name = []; made = 0; owner = Some 0; stage = running }

-- the state with the root alone
abbrev pub root_alone : CoreState
root_alone = record { count = 1; cells = put (λ _. blank) 0 root; others = 0; cleared = 0 }

-- who owns a cell
abbrev pub owner : Cells → ℕ → Option ℕ
owner cells c = (cells c).owner

-- the name of a cell
abbrev pub name : Cells → ℕ → Name
name cells c = (cells c).name

-- the task that made a cell
abbrev pub maker : Cells → ℕ → ℕ
maker cells c = (cells c).maker

-- what a cell is
abbrev pub stage : Cells → ℕ → CellStage
stage cells c = (cells c).stage

-- what a task waits for at this stage
abbrev pub wait_of : CellStage → Option ℕ
wait_of promise = None
wait_of fresh = None
wait_of running = None
wait_of raised = None
wait_of (waits c way w) = Some c
wait_of ended = None

-- what a task waits for
abbrev pub wait : Cells → ℕ → Option ℕ
wait cells t = wait_of (stage cells t)

-- whether it is a task
abbrev pub is_task : CellStage → Bool
is_task promise = false
is_task fresh = true
is_task running = true
is_task raised = true
is_task (waits c way w) = true
is_task ended = true

-- c is a task
abbrev pub IsTask : Cells → ℕ → Type 0
IsTask cells c = is_task (stage cells c) ≡ true

-- a task that may act as a running one does
abbrev pub Runs : CellStage → Type 0
Runs promise = ⊥
Runs fresh = Unit {0}
Runs running = Unit {0}
Runs raised = ⊥
Runs (waits c way w) = ⊥
Runs ended = ⊥

-- a task that hasn't ended
abbrev pub Lives : CellStage → Type 0
Lives promise = ⊥
Lives fresh = Unit {0}
Lives running = Unit {0}
Lives raised = Unit {0}
Lives (waits c way w) = Unit {0}
Lives ended = ⊥

-- a task that isn't fresh
abbrev pub HasBegun : CellStage → Type 0
HasBegun promise = ⊥
HasBegun fresh = ⊥
HasBegun running = Unit {0}
HasBegun raised = Unit {0}
HasBegun (waits c way w) = Unit {0}
HasBegun ended = Unit {0}

-- a cell that is there and that nobody owns
abbrev pub IsClosed : ℕ → Cells → ℕ → Type 0
IsClosed count cells c = (c < count) × (owner cells c ≡ None)

-- the present cell of a walk that starts at p: the one that the owner passed last waited for
abbrev pub present : ℕ → List TrailLink → ℕ
present p [] = p
present p (link ∷ links) = link.next

-- F holds of the cell and the way of the wait and of the walker of a task at this stage, where it walks
abbrev pub IfWalksAt : CellStage → (ℕ → Way → Walker → Type 0) → Type 0
IfWalksAt st F = (c : ℕ) (way : Way) (w : Walker) → st ≡ waits c way (walks w) → F c way w

-- the same of t
abbrev pub IfWalks : Cells → ℕ → (ℕ → Way → Walker → Type 0) → Type 0
IfWalks cells t F = IfWalksAt (stage cells t) F
