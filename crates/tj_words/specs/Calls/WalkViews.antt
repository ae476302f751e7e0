-- What the loads of a walker and the steps on OTHERS make of the view of their seat, and when they may be made.
use Rattle.std.specs.Prelude.{◌≡◌, ◌≢◌, ◌⊎◌, ℕ, suc, ◌-◌, min, Option, Some, None}
use Rattle.tj_base.specs.declared.cell.CellId.{CellId}
use Rattle.tj_body.specs.Points.{IsIn}
use Rattle.tj_events.specs.declared.walk.Way.{Way}
use Rattle.tj_events.specs.declared.walk.Walker.{Walker}
use Rattle.tj_events.specs.declared.walk.LastRead.{LastRead}
use Rattle.tj_events.specs.declared.walk.LastRead.TheVariants.{Published, SawOthers, Counted, SawOwner, SawWait, Passed}
use Rattle.tj_events.specs.declared.walk.LastRead.TheVariants.{Changed}
use Rattle.tj_events.specs.Events.{count_read, owner_read, owner_found, is_owner, MayReadOwner, MayReadAgain}
use Rattle.tj_words.specs.declared.view.Does.{Does}
use Rattle.tj_words.specs.declared.view.Does.TheVariants as does
use Rattle.tj_words.specs.declared.view.Custody.{Custody}
use Rattle.tj_words.specs.declared.view.Noted.TheVariants as note
use Rattle.tj_words.specs.declared.view.View.{View}
use Rattle.tj_words.specs.LawParts.Holding.{held_in}
use Rattle.tj_words.specs.Steps.StepEvents.{MayAct}
use Rattle.tj_words.specs.SeatViews.TaskLists.{noted}
use Rattle.tj_words.specs.SeatViews.SeatSteps.{Tells}
use Rattle.tj_words.specs.SeatViews.Views.{loaded_plain}

-- what a task does, with its walk changed
abbrev pub walk_with : (Walker → Walker) → Does → Does
walk_with f does.Unborn = does.Unborn
walk_with f does.Fresh = does.Fresh
walk_with f does.Running = does.Running
walk_with f does.Raised = does.Raised
walk_with f (does.Walking p way w) = does.Walking p way (f w)
walk_with f (does.Alarmed p way w) = does.Alarmed p way w

-- the walker after it loaded OWN of its present cell, which is o: for the first time, or for the second
abbrev pub owner_seen : Option ℕ → Walker → LastRead → Walker
owner_seen o w Counted = owner_read o w
owner_seen o w Passed = owner_read o w
owner_seen o w (SawWait u (Some v)) = owner_found (is_owner o u) u v w
owner_seen o w (SawWait u None) = w
owner_seen o w Published = w
owner_seen o w (SawOthers n) = w
owner_seen o w (SawOwner q) = w
owner_seen o w Changed = w

-- the owner of its present cell is what the walker reads next: for the first time, or for the second
abbrev pub MayLoadOwner : Walker → Type 0
MayLoadOwner w = MayReadOwner w ⊎ MayReadAgain w

-- a walker of t reads next what u waits for
abbrev pub MayLoadWait : ℕ → ℕ → Walker → Type 0
MayLoadWait t u w = (w.last ≡ SawOwner (Some u)) × (u ≢ t)

module _ {B : Type 0} where
  -- the task does something else from now on, by what it did
  abbrev pub does_next : (Does → Does) → Custody B → Custody B
  does_next f k = record k { does = f k.does }

  -- task t does something else from now on, by what it did
  abbrev pub turned : ℕ → (Does → Does) → View B → View B
  turned t f v = record v { steps = suc v.steps; tasks = noted t (does_next f) v.tasks }

  -- the walker of t has read on
  abbrev pub read_on : ℕ → (Walker → Walker) → View B → View B
  read_on t f v = turned t (walk_with f) v

  -- OTHERS was lowered for a wait that the seat had cleared
  abbrev pub lowered : View B → View B
  lowered v = record v { steps = suc v.steps; cleared = v.cleared - 1 }

  -- the seat holds t, which walks, and F holds of the cell and the way of its wait and of its walker
  pub record IsWalking (t : ℕ) (F : ℕ → Way → Walker → Type 0) (v : View B) : Type 0 where
    pub task : Custody B
    pub wait : ℕ
    pub way : Way
    pub walker : Walker
    pub held : held_in v.tasks t ≡ Some task
    pub does : task.does ≡ does.Walking wait way walker
    pub may : F wait way walker

  -- the load is no event, or is that of a walker that the seat has, of which F holds
  abbrev pub MayLoadBy : Option CellId → (ℕ → ℕ → Way → Walker → Type 0) → View B → Type 0
  MayLoadBy None F v = Unit {0}
  MayLoadBy (Some t) F v = IsWalking t.0 (F t.0) v

  -- COUNT was loaded as n where the load is no event, of which so many are cells of the table; a walker has its bound
  abbrev pub ReadsCount : Option CellId → ℕ → ℕ → View B → View B → Type 0
  ReadsCount None cells found v w = (n : ℕ) × (found ≡ min n cells) × (w ≡ loaded_plain note.Count n v)
  ReadsCount (Some t) cells found v w = w ≡ read_on t.0 (count_read found) v

  -- the seat holds t, which runs, hasn't raised OTHERS, and has its result
  pub record MayRaise (t : ℕ) (v : View B) : Type 0 where
    pub task : Custody B
    pub held : held_in v.tasks t ≡ Some task
    pub acts : MayAct task.does
    pub result : IsIn t task.owned

  -- a load of the walker of t, by which it has read on by what was found, of which May tells
  abbrev pub walk_load : ℕ → (ℕ → Walker → Walker) → (ℕ → Type 0) → Tells B
  walk_load t f May st m n m' = (m'.1 ≡ m.1) × (m'.0 ≡ read_on t (f n) m.0) × May n

  -- the add to OTHERS for a wait of t
  abbrev pub others_add : ℕ → Tells B
  others_add t st m n m' = (m'.1 ≡ m.1) × (m'.0 ≡ turned t (λ _. does.Raised) m.0)

  -- the subtraction from OTHERS
  abbrev pub others_subtraction : Tells B
  others_subtraction st m n m' = (m'.1 ≡ m.1) × (m'.0 ≡ lowered m.0)
