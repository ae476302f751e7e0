-- How a worker leaves: it is at rest, or the run was stopped, and why.
use Rattle.std.specs.Prelude.{◌≡◌, ℕ, Bool, true, List, [], ◌∷◌, ◌++◌}
use Rattle.tj_body.specs.Programs.{Program}
use Rattle.tj_log.specs.declared.entry.Entry.{Entry}
use Rattle.tj_words.specs.declared.view.View.{View}
use Rattle.tj_cells.specs.CallLogs.{Seat}
use Rattle.tj_words.specs.CallLaws.StepCalls as call
use Rattle.tj_words.specs.CallLaws.StepLogs.{entry_of}
use Rattle.tj_words.specs.SeatViews.FullMeaning.{NamesFull}
use Rattle.tj_words.specs.SeatViews.KnowsMore.{IsTailOf}
use Rattle.tj_words.specs.SeatViews.SeatSteps.{SeatMe}
use Rattle.tj_words.specs.SeatViews.Views.{IsIdle, saw_rest, saw_stop}
use Rattle.tj_words.specs.Words.StopWords as words
use Rattle.tj_words.specs.declared.stop.Stop.TheVariants as stops
use Rattle.tj_run.specs.declared.why.Why.{Why}
use Rattle.tj_run.specs.declared.why.Why.TheVariants as why
use Rattle.tj_run.specs.declared.why.Left.{Left}
use Rattle.tj_run.specs.declared.why.Left.TheVariants as left

-- how STOP says why
abbrev pub stop_word : Why → ℕ
stop_word why.Full = words.stop_word stops.Full
stop_word why.Memory = words.stop_word stops.Memory

-- the last step of a worker, by how it leaves: it loaded LIVE as 0, or STOP as what says why
abbrev pub last_entry : Left → Entry
last_entry left.Rested = entry_of call.sees_live 0 0 0
last_entry (left.Stopped cause) = entry_of call.sees_stop 0 0 (stop_word cause)

module _ {B : Type 0} where
  -- the log of the seat is longer by some steps, the last of which is the one by which a worker leaves like this; and
  -- the seat has taken in no other one
  abbrev pub EndsLog : Left → Seat B → Seat B → Type 0
  EndsLog how old new =
      (since : List Entry) × (new.log ≡ last_entry how ∷ (since ++ old.log)) × (new.took ≡ old.took)

  -- what a run that was stopped for this tells of the meaning
  abbrev pub IsTold : (Bool → B → Program B) → Why → View B → Type 0
  IsTold program why.Full v = NamesFull program v
  IsTold program why.Memory v = Unit {0}

  -- the worker has loaded LIVE as 0, its seat may be merged, and it has the lot that it came with
  pub record HasRested (v : View B) (me : SeatMe B) : Type 0 where
    pub rested : me.0.rested ≡ true
    pub idle : IsIdle me.0
    pub slots : me.1 ≡ []
    pub lot : me.0.lot ≡ v.lot
    pub about : me.0.about ≡ v.about

  -- what the seat loaded from STOP last says why the run was stopped; it is full only where the meaning is
  pub record HasStopped (program : Bool → B → Program B) (cause : Why) (v w : View B) : Type 0 where
    pub stop : w.stop ≡ stop_word cause
    pub told : IsTold program cause v

  -- the last step of a call was a load of LIVE, which was 0 then
  pub record FoundRest (v w : View B) : Type 0 where
    pub at : View B
    pub since : IsTailOf v.notes at.notes
    pub loaded : w ≡ saw_rest at

  -- the last step of a call was a load of STOP, which said then why the run was stopped
  pub record FoundStop (cause : Why) (v w : View B) : Type 0 where
    pub at : View B
    pub since : IsTailOf v.notes at.notes
    pub loaded : w ≡ saw_stop (stop_word cause) at

  -- what the last step of a worker found, by how it leaves
  abbrev pub Found : Left → View B → View B → Type 0
  Found left.Rested v w = FoundRest v w
  Found (left.Stopped cause) v w = FoundStop cause v w

  -- how a worker leaves: it is at rest, or the run was stopped
  abbrev pub Leaves : (Bool → B → Program B) → Left → View B → SeatMe B → Type 0
  Leaves program left.Rested v me = HasRested v me
  Leaves program (left.Stopped cause) v me = HasStopped program cause v me.0
