-- The core state that the words and the views show.
use Rattle.std.specs.Prelude.{ℕ, cond, nat_eq, nat_lt, List, [], get_or, Option, Some, None}
use Rattle.tj_base.specs.declared.cell.Sort.{Sort}
use Rattle.tj_base.specs.declared.cell.Sort.TheVariants as sort
use Rattle.tj_body.specs.History.{to_task}
use Rattle.tj_body.specs.declared.ask.Answer.{Answer}
use Rattle.tj_body.specs.declared.ask.Answer.TheVariants as answer
use Rattle.tj_body.specs.declared.point.Reference.{Reference}
use Rattle.tj_events.specs.declared.walk.Walker.{Walker}
use Rattle.tj_events.specs.CoreState.{CellStage, CellState, Cells, CoreState, blank, walks, parked, alarmed, promise}
use Rattle.tj_events.specs.CoreState.{fresh}
use Rattle.tj_events.specs.CoreState.{running, raised, waits, ended}
use Rattle.tj_events.specs.Events.{start_walk}
use Rattle.tj_words.specs.declared.phase.Walk.TheVariants as walk
use Rattle.tj_words.specs.declared.phase.Phase.{Phase}
use Rattle.tj_words.specs.declared.phase.Phase.TheVariants as phase
use Rattle.tj_record.specs.declared.record.Rec.{Rec}
use Rattle.tj_words.specs.declared.view.Hand.{Hand}
use Rattle.tj_words.specs.declared.view.Does.{Does}
use Rattle.tj_words.specs.declared.view.Does.TheVariants as does
use Rattle.tj_words.specs.declared.view.Custody.{Custody}

-- the sort of a cell by its PHASE
abbrev pub phase_sort : Phase → Sort
phase_sort phase.Unborn = sort.Task
phase_sort phase.Ready = sort.Task
phase_sort phase.Running = sort.Task
phase_sort phase.Ended = sort.Task
phase_sort phase.Promise = sort.Promise
phase_sort (phase.Waiting c way walk) = sort.Task

-- the sort of a cell: by PHASE, or in hand by the view
abbrev pub sort_shown : Option Hand → Phase → Sort
sort_shown (Some h) phase = h.sort
sort_shown None phase = phase_sort phase

-- who owns a new cell: the maker a promise, and a task its result
abbrev pub first_owner : Sort → ℕ → ℕ → ℕ
first_owner sort.Promise maker c = maker
first_owner sort.Task maker c = c

-- the owner of a cell: by OWN, or in hand by the view
abbrev pub owner_shown : ℕ → Option Hand → Option ℕ → Option ℕ
owner_shown c (Some h) own = Some (first_owner h.sort h.maker c)
owner_shown c None own = own

-- the stage of a cell in hand
abbrev pub hand_stage : Sort → CellStage
hand_stage sort.Task = fresh
hand_stage sort.Promise = promise

-- the stage of a task that has had no event: the root runs from the start
abbrev pub new_stage : ℕ → CellStage
new_stage t = cond (nat_eq t 0) running fresh

-- the stage of a task whose record has this answer
abbrev pub answer_stage : ℕ → Answer → CellStage
answer_stage t answer.Start = new_stage t
answer_stage t (answer.Local k) = running
answer_stage t answer.Done = running
answer_stage t (answer.Num i) = running
answer_stage t (answer.RefAt k) = running
answer_stage t answer.Lost = running

-- the stage of a task that runs, by what its seat has for it
abbrev pub does_stage : ℕ → Does → CellStage
does_stage t does.Unborn = running
does_stage t does.Fresh = new_stage t
does_stage t does.Running = running
does_stage t does.Raised = raised
does_stage t (does.Walking c way w) = running
does_stage t (does.Alarmed c way w) = running

-- the walk of a task that walks, by what its seat has for it
abbrev pub does_walk : Does → Walker
does_walk does.Unborn = start_walk
does_walk does.Fresh = start_walk
does_walk does.Running = start_walk
does_walk does.Raised = start_walk
does_walk (does.Walking c way w) = w
does_walk (does.Alarmed c way w) = w

module _ {B : Type 0} where
  -- the stage of a task that is ready, by its record
  abbrev pub ready_stage : ℕ → Option (Rec B) → CellStage
  ready_stage t None = running
  ready_stage t (Some r) = answer_stage t r.answer

  -- the stage of a task that runs
  abbrev pub running_stage : ℕ → Option (Custody B) → CellStage
  running_stage t None = running
  running_stage t (Some k) = does_stage t k.does

  -- the walk of a task that walks
  abbrev pub walk_shown : Option (Custody B) → Walker
  walk_shown None = start_walk
  walk_shown (Some k) = does_walk k.does

  -- the stage of a task whose PHASE this is and whose result somebody owns
  abbrev pub phase_stage : ℕ → Phase → Option (Custody B) → Option (Rec B) → CellStage
  phase_stage t phase.Unborn held home = new_stage t
  phase_stage t phase.Ready held home = ready_stage t home
  phase_stage t phase.Running held home = running_stage t held
  phase_stage t phase.Ended held home = running
  phase_stage t phase.Promise held home = promise
  phase_stage t (phase.Waiting c way walk.Walking) held home = waits c.0 way (walks (walk_shown held))
  phase_stage t (phase.Waiting c way walk.Parked) held home = waits c.0 way parked
  phase_stage t (phase.Waiting c way walk.Alarmed) held home = waits c.0 way alarmed

  -- the stage of a cell that isn't in hand: a task has ended where nobody owns its result
  abbrev pub stage_there : ℕ → Sort → Option ℕ → Phase → Option (Custody B) → Option (Rec B) → CellStage
  stage_there t sort.Task None phase held home = ended
  stage_there t sort.Task (Some u) phase held home = phase_stage t phase held home
  stage_there t sort.Promise own phase held home = promise

  -- the stage of a cell
  abbrev pub stage_shown : ℕ → Option Hand → Option ℕ → Phase → Option (Custody B) → Option (Rec B) → CellStage
  stage_shown c (Some h) own phase held home = hand_stage h.sort
  stage_shown c None own phase held home = stage_there c (phase_sort phase) own phase held home

-- what a cell is, as the list of all has it
abbrev pub reference_of : List Reference → ℕ → Reference
reference_of born c = get_or born c (to_task [])

module _ {B : Type 0} (drawn : ℕ) (born : List Reference) (maker made : ℕ → ℕ) (hand : ℕ → Option Hand)
    (own : ℕ → Option ℕ) (phase : ℕ → Phase) (held : ℕ → Option (Custody B)) (home : ℕ → Option (Rec B)) where
  -- a cell that is there
  abbrev pub cell_shown : ℕ → CellState
  cell_shown c = record {
    maker = maker c;
    name = (reference_of born c).name;
    made = made c;
    owner = owner_shown c (hand c) (own c);
    stage = stage_shown c (hand c) (own c) (phase c) (held c) (home c);
  }

  -- the cells: those that aren't drawn are blank
  abbrev pub cells_shown : Cells
  cells_shown c = cond (nat_lt c drawn) (cell_shown c) blank

  -- the core state, with OTHERS and the number of waits cleared and not yet lowered
  abbrev pub state_shown : ℕ → ℕ → CoreState
  state_shown others cleared = record { count = drawn; cells = cells_shown; others = others; cleared = cleared }
