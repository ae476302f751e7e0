-- A seat that runs a task and has claimed another one besides: what the tests of two tasks of one seat know of it.
use Rattle.std.specs.Prelude.{◌≡◌, ◌≢◌, ℕ, ◌<◌, Bool, false, [], ◌∷◌, None}
use Rattle.tj_base.specs.declared.cell.Sort.TheVariants as sort
use Rattle.tj_body.specs.Programs.{Program}
use Rattle.tj_body.specs.declared.ask.Answer.TheVariants as answer
use Rattle.tj_record.specs.declared.record.Held.{Held}
use Rattle.tj_record.specs.declared.record.Rec.{Rec}
use Rattle.tj_words.specs.declared.table.Laid.{Laid}
use Rattle.tj_words.specs.declared.view.View.{View}
use Rattle.tj_words.specs.Law.{IsRooted}
use Rattle.tj_words.specs.SeatViews.SeatSteps.{SeatMe}
use Rattle.tj_words.specs.Calls.TakenRecords.{custody_of}
use Rattle.tj_park.specs.ChildViews.{Claimed}
use Rattle.tj_run.specs.Workers.{table_program}
use Rattle.tj_run.specs.Inner.Carried.{IsWaiting, RunsTask}
use Rattle.tj_run.specs.Inner.Pieces.{held_at}

module _ {B : Type 0} where
  -- the view that has the task of the record alone
  abbrev pub alone : Rec B → View B → View B
  alone r v = record v { tasks = custody_of r ∷ [] }

  module _ (program : Bool → B → Program B) (laid : Laid B) (mine : Rec B) where
    -- the seat runs the task of `mine`, t is a cell of its table, and a program runs there
    pub record MayBeginBeside (t : ℕ) (me : SeatMe B) : Type 0 where
      pub runs : RunsTask laid mine me
      pub there : t < laid.cells
      pub rooted : IsRooted (table_program program laid)

    -- the seat runs the task of `mine`, and has claimed that of r, which is at its start
    pub record HasBegun (r : Rec B) (old new : SeatMe B) : Type 0 where
      pub runs : RunsTask laid mine old
      pub rooted : IsRooted (table_program program laid)
      pub apart : r.cell.0 ≢ mine.cell.0
      pub claimed : Claimed program r.cell.0 r old.0 new.0
      pub slot : new.1 ≡ (r.cell.0, None) ∷ old.1
      pub start : r.answer ≡ answer.Start

    -- and its body has asked for the promise h, which the record holds at this place
    pub record WaitsBeside (r : Rec B) (place : ℕ) (h : Held) (old new : SeatMe B) : Type 0 where
      pub body : B
      pub begun : HasBegun (record r { body = body }) old new
      pub waits : IsWaiting (table_program program laid) (alone r new.0) r place false
      pub held : h ≡ held_at r.held place
      pub promise : h.sort ≡ sort.Promise
