-- How a task goes on after an ask or an answer, and why its worker is to stop the run.
use Rattle.std.specs.Prelude.{◌≡◌, ℕ, ◌<◌, Bool}
use Rattle.tj_body.specs.Asks.{Ends}
use Rattle.tj_body.specs.Programs.{Program}
use Rattle.tj_body.specs.declared.ask.Ask.{Ask}
use Rattle.tj_record.specs.declared.record.Rec.{Rec}
use Rattle.tj_words.specs.declared.table.Laid.{Laid}
use Rattle.tj_words.specs.declared.view.View.{View}
use Rattle.tj_words.specs.SeatViews.KnowsMore.{IsTailOf, KnowsMore}
use Rattle.tj_words.specs.SeatViews.SeatSteps.{SeatMe}
use Rattle.tj_words.specs.SeatViews.SeenWords.{FindsNothing}
use Rattle.tj_run.specs.declared.next.Next.{Next}
use Rattle.tj_run.specs.declared.next.Next.TheVariants as next
use Rattle.tj_run.specs.declared.why.Why.{Why}
use Rattle.tj_run.specs.declared.why.Why.TheVariants as why
use Rattle.tj_run.specs.Inner.Pieces.{held_at}
use Rattle.tj_run.specs.Workers.{table_program}
use Rattle.tj_run.specs.Inner.Carried.{RunsTask, IsRunning, IsWaiting, IsClosing}

-- the task doesn't run on
abbrev pub Stops : Next → Type 0
Stops next.Runs = ⊥
Stops (next.Waits k spare) = Unit {0}
Stops (next.Ends f) = Unit {0}

-- the task doesn't wait
abbrev pub HasAnswer : Next → Type 0
HasAnswer next.Runs = Unit {0}
HasAnswer (next.Waits k spare) = ⊥
HasAnswer (next.Ends f) = Unit {0}

-- a last ask isn't followed by another
abbrev pub StopsWhere : {B : Type 0} → Ask B → Next → Type 0
StopsWhere ask n = Ends ask → Stops n

module _ {B : Type 0} where
  -- why a run is to stop: where it is full a draw of the seat was refused; want of memory has no other cause. The seat
  -- is of the same table as before, and what it has noted since stands in front of its notes
  pub record Lacks (cause : Why) (v w : View B) : Type 0 where
    pub about : w.about ≡ v.about
    pub notes : IsTailOf v.notes w.notes
    pub refused : cause ≡ why.Full → 0 < w.refused

  module _ (program : Program B) where
    -- how the task of the record goes on, by what its seat knows
    abbrev pub GoesOn : Next → Rec B → View B → Type 0
    GoesOn next.Runs r v = IsRunning program v r
    GoesOn (next.Waits k spare) r v = IsWaiting program v r k spare
    GoesOn (next.Ends f) r v = IsClosing program v r f

  -- the seat knows more, still runs the task of the record, and nothing else, and the task goes on like this
  -- one relation for each arm, so that what holds from ask to ask is stated once
  pub record Goes (program : Bool → B → Program B) (laid : Laid B) (n : Next) (r : Rec B) (v : View B)
      (me : SeatMe B) : Type 0 where
    pub knows : KnowsMore v me.0
    pub runs : RunsTask laid r me
    pub goes_on : GoesOn (table_program program laid) n r me.0

  -- a task that waits on waits for the cell at the place, whose TAG was loaded as 0
  abbrev pub IsCauseOfWait : Next → Rec B → ℕ → Bool → View B → View B → Type 0
  IsCauseOfWait next.Runs r place spare v w = Unit {0}
  IsCauseOfWait (next.Ends f) r place spare v w = Unit {0}
  IsCauseOfWait (next.Waits k s) r place spare v w =
      (k ≡ place) × (s ≡ spare) × FindsNothing (held_at r.held place).cell.0 v w
