-- The law of failures: where a history failed by `arith` or `kind`, the statement at which its task stands has a reason
-- that tells of this.
use Rattle.std.specs.Prelude.{◌≡◌, ℕ, Bool, List, map, slice_get, Some}
use Rattle.tj_base.specs.declared.cause.Cause.{Cause}
use Rattle.tj_base.specs.declared.cause.Cause.TheVariants as cause
use Rattle.tj_base.specs.declared.cause.Trouble.{Trouble}
use Rattle.tj_base.specs.declared.cause.Trouble.TheVariants as trouble
use Rattle.tj_body.specs.History.{history, value_at}
use Rattle.tj_body.specs.Points.{IsIn}
use Rattle.tj_body.specs.Programs.{Program, program_of}
use Rattle.tj_body.specs.Rounds.{given, tasks}
use Rattle.tj_body.specs.declared.point.Close.TheVariants as close
use Rattle.tj_body.specs.declared.point.Point.{Point}
use Rattle.tj_body.specs.declared.point.PointStage.{PointStage}
use Rattle.tj_body.specs.declared.point.PointStage.TheVariants as stage
use Rattle.tj_body.specs.declared.point.Task.{Task}
use Rattle.tj_body.specs.declared.point.Value.{Value}
use Rattle.tj_syntax.specs.Parts.{own_ask}
use Rattle.tj_syntax.specs.Trees as tree
use Rattle.tj_syntax.specs.Trees.{Statement}
use Rattle.tj_eval.specs.Stands.{IsAt, PlacedState, StandsRight, placed_asks, placed_awaits, placed_left, placed_places}
use Rattle.tj_eval.specs.Stands.{placed_then, within}
use Rattle.tj_reasons.specs.ReasonLaws.{IsDeclared, TellsOf}
use Rattle.tj_reasons.specs.Reasons.{failed_at}

-- each fork in the script is of a declaration with as many parameters as it has arguments
abbrev pub ForksAreDeclared : List tree.Task → Type 0
ForksAreDeclared script = (decl at : ℕ) (d : tree.Task) (s : Statement) → slice_get script decl ≡ Some d
    → IsAt (within d.body) at s → IsDeclared script (own_ask s)

-- what the variables of a task hold at a point
abbrev pub held_at : Point PlacedState → List Value
held_at p = map (value_at p.name p.references) p.body.task.vars

-- the task stands at this statement of its declaration
pub record StandsAtStatement (script : List tree.Task) (x : PlacedState) (s : Statement) : Type 0 where
  pub task : tree.Task
  pub is_declared : slice_get script x.stand.decl ≡ Some task
  pub is_at : IsAt (within task.body) x.stand.at s

module _ (script : List tree.Task) (x : PlacedState) (held : List Value) where
  -- the task stands at a statement that has a reason, which tells of the fault
  abbrev pub HasReason : Trouble → Type 0
  HasReason fault = (s : Statement) × StandsAtStatement script x s × TellsOf fault (failed_at held s)

  -- the same of a cause, if it is one for which there are reasons
  abbrev pub HasReasonFor : Cause → Type 0
  HasReasonFor cause.Arith = HasReason trouble.Arith
  HasReasonFor cause.Kind = HasReason trouble.Kind
  HasReasonFor cause.Steps = Unit {0}
  HasReasonFor (cause.Owner q) = Unit {0}
  HasReasonFor (cause.Broken q) = Unit {0}
  HasReasonFor (cause.Order q) = Unit {0}

  -- and of a task in this stage, if it has failed
  abbrev pub HasReasonIn : PointStage → Type 0
  HasReasonIn (stage.Answered a) = Unit {0}
  HasReasonIn (stage.Waits q spare) = Unit {0}
  HasReasonIn (stage.Closed (close.Done v)) = Unit {0}
  HasReasonIn (stage.Closed (close.Failed c)) = HasReasonFor c

-- the program of tasks that know where they stand
abbrev pub placed_program : Bool → PlacedState → Program PlacedState
placed_program strict root = program_of placed_places placed_awaits placed_left placed_asks placed_then strict root

-- so it is of each task of each round of such a program whose root stands right, if its forks are declared
abbrev pub FailuresHaveReasons : Bool → PlacedState → Type 0
FailuresHaveReasons strict root = StandsRight root → ForksAreDeclared root.task.script
    → let program = placed_program strict root in
    (n : ℕ) (t : Task PlacedState) → IsIn t (tasks program n)
    → let p = history program.rules (given program n) t in HasReasonIn root.task.script p.body (held_at p) p.stage
