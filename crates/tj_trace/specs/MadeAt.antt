-- The law of lines and of stands: a line tells where the history of the task that knows where it stands ended, where it
-- stood at each step that made or set something, and what its variables held. No notes stand in these definitions.
use Rattle.std.specs.Prelude.{◌≡◌, ℕ, zero, suc, ◌*◌, nat_eq, Bool, cond, List, [], ◌∷◌, ◌++◌, map, drop, length}
use Rattle.tj_base.specs.ForkOrder.{Name}
use Rattle.tj_base.specs.declared.cell.Sort.{Sort}
use Rattle.tj_base.specs.declared.cell.Sort.TheVariants as sort
use Rattle.tj_base.specs.declared.value.Pay.{Pay}
use Rattle.tj_body.specs.History.{Assignment, point_after, history, value_at}
use Rattle.tj_body.specs.Points.{IsIn}
use Rattle.tj_body.specs.Programs.{Rules, Program, program_of}
use Rattle.tj_body.specs.Rounds.{given, tasks, last_round}
use Rattle.tj_body.specs.declared.point.Entry.{Entry}
use Rattle.tj_body.specs.declared.point.Point.{Point}
use Rattle.tj_body.specs.declared.point.PointStage.{PointStage}
use Rattle.tj_body.specs.declared.point.PointStage.TheVariants as stage
use Rattle.tj_body.specs.declared.point.Task.{Task}
use Rattle.tj_body.specs.declared.point.Value.{Value}
use Rattle.tj_eval.specs.Stands.{PlacedState, Stand, placed_places, placed_awaits, placed_left, placed_asks}
use Rattle.tj_eval.specs.Stands.{placed_then}
use Rattle.tj_trace.specs.Logs.{logged_program}
use Rattle.tj_trace.specs.Traces.{AreTraced, held_at}
use Rattle.tj_trace.specs.declared.line.Maker.{Maker}
use Rattle.tj_trace.specs.declared.line.SetNote.{SetNote}
use Rattle.tj_trace.specs.declared.line.TraceLine.{TraceLine}

-- the program of tasks that know where they stand, without notes
abbrev pub placed_program : Bool → PlacedState → Program PlacedState
placed_program strict root =
    program_of placed_places placed_awaits placed_left placed_asks placed_then strict root

-- what a task makes of this sort where it stands
abbrev pub made_here : Sort → Stand → Maker
made_here s z = record { sort = s; decl = z.decl; at = z.at }

-- what a step between two points of a task made, if it made something: a promise where there is one more, else a task
abbrev pub made_between : Point PlacedState → Point PlacedState → List Maker
made_between p q = cond (nat_eq q.made p.made) []
    (made_here (cond (nat_eq (length q.promises) (length p.promises)) sort.Task sort.Promise) q.body.stand ∷ [])

-- what so many steps of a task made, one after another
abbrev pub made_until : Rules PlacedState → Assignment → Task PlacedState → ℕ → List Maker
made_until rules V t zero = []
made_until rules V t (suc k) =
    made_until rules V t k ++ made_between (point_after rules V k t) (point_after rules V (suc k) t)

-- what a step that comes to this stage set where the task then stands, if it wrote these; what a task writes as it
-- ends, its result and what it owes, it doesn't set
abbrev pub set_before : PointStage → Stand → List (Name × Entry) → List SetNote
set_before (stage.Answered a) z writes = map (λ w. record { promise = w.0; at = z.at }) writes
set_before (stage.Waits q spare) z writes = map (λ w. record { promise = w.0; at = z.at }) writes
set_before (stage.Closed e) z writes = []

-- what a step between two points of a task set, if it set something
abbrev pub set_between : Point PlacedState → Point PlacedState → List SetNote
set_between p q = set_before q.stage q.body.stand (drop (length p.writes) q.writes)

-- what so many steps of a task set, one after another
abbrev pub set_until : Rules PlacedState → Assignment → Task PlacedState → ℕ → List SetNote
set_until rules V t zero = []
set_until rules V t (suc k) =
    set_until rules V t k ++ set_between (point_after rules V k t) (point_after rules V (suc k) t)

-- what these variables of a task at the end of its history hold, by what its places refer to
abbrev pub values_of : Point PlacedState → List Pay → List Value
values_of p vars = map (value_at p.name p.references) vars

-- the line tells where this history stands in the end, where it stood as it made each thing and set each promise, what
-- its variables held at first, and, if it failed by `arith` or `kind`, what they held then
pub record IsLineOf (rules : Rules PlacedState) (V : Assignment) (t : Task PlacedState) (l : TraceLine) : Type 0 where
  pub decl : l.decl ≡ (history rules V t).body.stand.decl
  pub at : l.at ≡ (history rules V t).body.stand.at
  pub makers : l.makers ≡ made_until rules V t (2 * suc (rules.left t.body))
  pub sets : l.sets ≡ set_until rules V t (2 * suc (rules.left t.body))
  pub began : l.began ≡ values_of (history rules V t) t.body.task.vars
  pub held : l.held ≡ held_at l.line.ending (values_of (history rules V t) (history rules V t).body.task.vars)

-- so it is of each line and the task with its name
abbrev pub LinesAreOfStands : Bool → PlacedState → Type 0
LinesAreOfStands strict root = (N : ℕ) (lines : List TraceLine) → AreTraced (logged_program strict root) N lines
    → (l : TraceLine) → IsIn l lines
    → (t : Task PlacedState) → IsIn t (tasks (placed_program strict root) (last_round N))
    → l.line.name ≡ t.name
    → let program = placed_program strict root in IsLineOf program.rules (given program (last_round N)) t l
