-- How a task that waits leaves its worker, or comes back to it.
use Rattle.std.specs.Prelude.{◌≡◌, ℕ, ◌<◌, Bool, None}
use Rattle.tj_body.specs.declared.ask.Answer.TheVariants as answer
use Rattle.tj_body.specs.Points.{IsIn}
use Rattle.tj_body.specs.Programs.{Program}
use Rattle.tj_body.specs.declared.point.Reference.{Reference}
use Rattle.tj_events.specs.declared.walk.Way.{Way}
use Rattle.tj_events.specs.declared.walk.Walker.{Walker}
use Rattle.tj_record.specs.declared.record.Held.{Held}
use Rattle.tj_record.specs.declared.record.Rec.{Rec}
use Rattle.tj_words.specs.declared.table.Laid.{Laid}
use Rattle.tj_words.specs.declared.view.View.{View}
use Rattle.tj_words.specs.SeatViews.KnowsMore.{KnowsMore}
use Rattle.tj_words.specs.Law.{IsRooted}
use Rattle.tj_words.specs.SeatViews.SeatSteps.{SeatMe}
use Rattle.tj_words.specs.Calls.TakenRecords.{IsKnownRecord}
use Rattle.tj_words.specs.SeatViews.TreeReads.{HasReadTree}
use Rattle.tj_words.specs.LawParts.TreeWords.{IsCell}
use Rattle.tj_detect.specs.Blocks.{EndsWith, doing, does_after, tokens_given}
use Rattle.tj_detect.specs.declared.blocking.Verdict.{Verdict}
use Rattle.tj_run.specs.Workers.{IsFree, table_program}
use Rattle.tj_run.specs.Inner.Carried.{IsWaiting, RunsTask}
use Rattle.tj_run.specs.Inner.Pieces.{held_at}

-- a blank of this name and with so many parts, of which there are some, opens the ledger that has them
abbrev pub OpensLedger : ℕ → ℕ → ℕ → ℕ → Type 0
OpensLedger name parts ledger_name ledger_parts =
    (name ≡ ledger_name) × (parts ≡ ledger_parts) × (0 < parts)

module _ {B : Type 0} where
  -- the seat knows the held cell, which is of the sort that the record says
  pub record IsHeldAs (h : Held) (v : View B) : Type 0 where
    pub reference : Reference
    pub is : IsCell v.born h.cell.0 reference
    pub sort : reference.sort ≡ h.sort
    pub known : IsIn h.cell.0 v.known

  -- t has published its wait, and what it does since is by the verdict
  pub record Blocked (verdict : Verdict) (t q : ℕ) (way : Way) (v w : View B) : Type 0 where
    pub walker : Walker
    pub steps : ℕ
    pub ends : EndsWith verdict t way walker
    pub view : w ≡ doing t (does_after verdict q way walker) steps (tokens_given verdict) v

  -- the record of a task that is to wait for the cell at the place
  abbrev pub waits_at : ℕ → Bool → Rec B → Rec B
  waits_at place spare r = record r { answer = answer.RefAt place; spare = spare }

  -- the task of the record, which the seat ran, has blocked on its wait for q, after loads of the tree by which the way
  -- of the wait was found; the record says of which held cell it is
  pub record HasBlocked (program : Bool → B → Program B) (laid : Laid B) (r : Rec B) (q : ℕ) (way : Way)
      (verdict : Verdict) (old new : SeatMe B) : Type 0 where
    pub before : Rec B
    pub place : ℕ
    pub spare : Bool
    pub runs : RunsTask laid before old
    pub waits : IsWaiting (table_program program laid) old.0 before place spare
    pub record_is : r ≡ waits_at place spare before
    pub cell_is : q ≡ (held_at before.held place).cell.0
    pub looked : SeatMe B
    pub read : HasReadTree laid.cells old.0 looked.0
    pub looked_slots : looked.1 ≡ old.1
    pub blocked : Blocked verdict before.cell.0 (held_at before.held place).cell.0 way looked.0 new.0
    pub slots : new.1 ≡ looked.1

  -- the worker has let the task go, and has none
  pub record IsLeft (laid : Laid B) (v : View B) (me : SeatMe B) : Type 0 where
    pub knows : KnowsMore v me.0
    pub free : IsFree laid me

  -- the worker runs the task of the record, which is at its start, or waits for a cell of which the worker knows what
  -- has become
  pub record ComesBack (program : Bool → B → Program B) (laid : Laid B) (r : Rec B) (v : View B) (me : SeatMe B) :
      Type 0 where
    pub knows : KnowsMore v me.0
    pub runs : RunsTask laid r me
    pub rooted : IsRooted (table_program program laid)
    pub known : IsKnownRecord (table_program program laid) me.0.born me.0.filled r
    pub unfinished : r.finish ≡ None
