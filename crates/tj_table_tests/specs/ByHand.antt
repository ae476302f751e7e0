-- A task that a test runs by hand, by a seat that has nothing else.
use Rattle.std.specs.Prelude.{ℕ, ◌<◌, Bool}
use Rattle.tj_body.specs.Programs.{Program}
use Rattle.tj_record.specs.declared.record.Rec.{Rec}
use Rattle.tj_words.specs.declared.table.Laid.{Laid}
use Rattle.tj_words.specs.Law.{IsRooted}
use Rattle.tj_words.specs.SeatViews.SeatSteps.{SeatMe}
use Rattle.tj_run.specs.Workers.{IsFree, table_program}
use Rattle.tj_run.specs.Inner.Carried.{IsRunning, RunsTask}

module _ {B : Type 0} (program : Bool → B → Program B) (laid : Laid B) where
  -- the seat is free, t is a cell of its table, and a program runs there
  pub record MayBegin (t : ℕ) (me : SeatMe B) : Type 0 where
    pub free : IsFree laid me
    pub there : t < laid.cells
    pub rooted : IsRooted (table_program program laid)

  -- the seat runs the task of the record, whose body is to be given its answer
  pub record IsRun (r : Rec B) (me : SeatMe B) : Type 0 where
    pub runs : RunsTask laid r me
    pub running : IsRunning (table_program program laid) me.0 r
