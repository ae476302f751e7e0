-- What is told of a task by its record, over the names of the cells.
use Rattle.std.specs.Prelude.{◌≡◌, ℕ, List, map, drop, Option, Some, None, slice_get}
use Rattle.std.specs.List.{AllByRecursion}
use Rattle.std.specs.Option.{option_map}
use Rattle.tj_base.specs.ForkOrder.{Name}
use Rattle.tj_base.specs.declared.cause.Cause.{Cause}
use Rattle.tj_base.specs.declared.cause.Cause.TheVariants as cause
use Rattle.tj_base.specs.declared.value.Shown.{Shown}
use Rattle.tj_base.specs.declared.value.Shown.TheVariants as shown
use Rattle.tj_body.specs.Names.{in_order}
use Rattle.tj_body.specs.declared.ask.Answer.{Answer}
use Rattle.tj_body.specs.declared.ask.Answer.TheVariants as answer
use Rattle.tj_mean.specs.declared.outcome.Ending.{Ending}
use Rattle.tj_mean.specs.declared.outcome.Ending.TheVariants as ending
use Rattle.tj_mean.specs.declared.stopped.Stopped.{Stopped}
use Rattle.tj_record.specs.declared.record.Fill.{Fill}
use Rattle.tj_record.specs.declared.record.Fill.TheVariants as fill
use Rattle.tj_record.specs.declared.record.Hurt.{Hurt}
use Rattle.tj_record.specs.declared.record.Hurt.TheVariants as hurt
use Rattle.tj_record.specs.declared.record.Finish.{Finish}
use Rattle.tj_record.specs.declared.record.Finish.TheVariants as finish
use Rattle.tj_record.specs.declared.record.Held.{Held}
use Rattle.tj_record.specs.declared.record.Rec.{Rec}
use Rattle.tj_report.specs.Inner.CellNames.{IsBelow, name_in}

module _ (ns : List Name) where
  -- a value with which a cell is filled
  abbrev pub shown_by : Fill → Shown
  shown_by (fill.Num i) = shown.Num i
  shown_by (fill.Promise c) = shown.Ref (name_in ns c)
  shown_by (fill.Task c) = shown.Ref (name_in ns c)

  -- why a task failed
  abbrev pub cause_by : Hurt → Cause
  cause_by hurt.Arith = cause.Arith
  cause_by hurt.Kind = cause.Kind
  cause_by hurt.Steps = cause.Steps
  cause_by (hurt.Owner c) = cause.Owner (name_in ns c)
  cause_by (hurt.Broken c) = cause.Broken (name_in ns c)
  cause_by (hurt.Order c) = cause.Order (name_in ns c)

  -- what became of a task that ended
  abbrev pub finished_by : Finish → Ending
  finished_by (finish.Done f) = ending.Done (shown_by f)
  finished_by (finish.Failed h) = ending.Failed (cause_by h)

  -- what became of a task: it ended, or waits for the cell at the place that its answer is; nothing where it goes on
  abbrev pub ending_by : Option Finish → Answer → List Held → Option Ending
  ending_by (Some f) a held = Some (finished_by f)
  ending_by None (answer.RefAt k) held = option_map (λ (h : Held). ending.Waits (name_in ns h.cell)) (slice_get held k)
  ending_by None _ held = None

  module _ {B : Type 0} where
    -- what is told of the task with this record; the first cell that it owns is its result
    abbrev pub told_by : Rec B → Option Stopped
    told_by r = option_map
        (λ e. record {
          line = record {
            name = name_in ns r.cell;
            prints = r.prints;
            ending = e;
            owes = in_order (map (name_in ns) r.owed);
          };
          holds = drop 1 (map (name_in ns) r.owned);
        })
        (ending_by r.finish r.answer r.held)

module _ (n : ℕ) where
  -- the cells that are named are among the first n
  abbrev pub IsFillBelow : Fill → Type 0
  IsFillBelow (fill.Num i) = Unit {0}
  IsFillBelow (fill.Promise c) = IsBelow n c
  IsFillBelow (fill.Task c) = IsBelow n c

  abbrev pub IsHurtBelow : Hurt → Type 0
  IsHurtBelow hurt.Arith = Unit {0}
  IsHurtBelow hurt.Kind = Unit {0}
  IsHurtBelow hurt.Steps = Unit {0}
  IsHurtBelow (hurt.Owner c) = IsBelow n c
  IsHurtBelow (hurt.Broken c) = IsBelow n c
  IsHurtBelow (hurt.Order c) = IsBelow n c

  abbrev pub IsFinishBelow : Finish → Type 0
  IsFinishBelow (finish.Done f) = IsFillBelow f
  IsFinishBelow (finish.Failed h) = IsHurtBelow h

  -- the task ended or waits, and the cells that are named by this are among the first n
  abbrev pub IsEndBelow : Option Finish → Answer → List Held → Type 0
  IsEndBelow (Some f) a held = IsFinishBelow f
  IsEndBelow None answer.Start held = ⊥
  IsEndBelow None (answer.RefAt k) held = (h : Held) × (slice_get held k ≡ Some h) × IsBelow n h.cell
  IsEndBelow None (answer.Local k) held = ⊥
  IsEndBelow None answer.Done held = ⊥
  IsEndBelow None (answer.Num i) held = ⊥
  IsEndBelow None answer.Lost held = ⊥

  -- the record is that of a task that has stopped, and the cells that it names are among the first n
  pub record IsRecordBelow {B : Type 0} (r : Rec B) : Type 0 where
    pub cell : IsBelow n r.cell
    pub owned : AllByRecursion (IsBelow n) r.owned
    pub owed : AllByRecursion (IsBelow n) r.owed
    pub stops : IsEndBelow r.finish r.answer r.held
