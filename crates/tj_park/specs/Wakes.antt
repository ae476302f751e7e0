-- Waking a chain of waiters: what it needs of the seat, what it makes of the seat, and what comes into the pool.
use Rattle.std.specs.Prelude.{◌≡◌, ℕ, ◌+◌, ◌<◌, List, [], ◌∷◌, ◌++◌, length, None}
use Rattle.tj_base.specs.declared.cell.CellId.{CellId}
use Rattle.tj_events.specs.declared.walk.Way.{Way}
use Rattle.tj_words.specs.declared.view.Note.{Note}
use Rattle.tj_words.specs.declared.view.Noted.TheVariants as note
use Rattle.tj_words.specs.declared.view.View.{View}
use Rattle.tj_words.specs.Words.Lists.{cell, without}
use Rattle.tj_words.specs.LawParts.Chains.{head_of, parked_phase}
use Rattle.tj_words.specs.Calls.ChainSteps.{KnowsEntry, rest_of}
use Rattle.tj_words.specs.Words.Heads.{head_word}
use Rattle.tj_words.specs.LawParts.LiveCount.{IsBacked}
use Rattle.tj_words.specs.Words.Phases.{phase_word}
use Rattle.tj_words.specs.SeatViews.KnowsMore.{KnowsMore}
use Rattle.tj_words.specs.SeatViews.SeatSteps.{SeatMe}
use Rattle.tj_words.specs.SeatViews.Views.{note_of}
use Rattle.tj_cells.specs.CallLogs.{Seat}
use Rattle.tj_park.specs.Records.{AlarmsLeave, HasNoRecord}
use Rattle.tj_park.specs.WakeLogs.{MakesWake}

-- the tasks of a list joined a pool one after the other, each once
abbrev pub HavePut : {P : Type 0} → (P → CellId → P → Type 0) → List ℕ → P → P → Type 0
HavePut puts [] a b = b ≡ a
HavePut {P} puts (t ∷ ts) a b = (c : P) × puts a (cell t) c × HavePut puts ts c b

module _ {B : Type 0} where
  -- the seat may make parked tasks ready: it holds a token or a running task, its lot has room for a token and for a
  -- wait cleared, and no record lies in the slot that it took last
  pub record MayWakeTasks (me : SeatMe B) : Type 0 where
    pub backed : IsBacked me.0
    pub alarms : AlarmsLeave 0 me.0
    pub token_room : me.0.tokens < me.0.lot
    pub cleared_room : me.0.cleared < me.0.lot
    pub no_record : HasNoRecord me.1

  -- it knows what has become of p, and has no rest
  pub record MayWake (p : ℕ) (me : SeatMe B) : Type 0 where
    pub wakes : MayWakeTasks me
    pub entry : KnowsEntry p me.0
    pub no_rest : me.0.rest ≡ None

  -- what the seat notes at the wake of t, behind which these wait for p: NEXT of t named the first of them, and then
  -- PHASE said that t was parked on p this way. The later note stands first
  abbrev pub wake_notes : ℕ → ℕ → Way → List ℕ → View B → List Note
  wake_notes p t way behind v = note_of (note.Phase t) (phase_word (parked_phase p way)) v
      ∷ note_of (note.Next t) (head_word (head_of behind)) v ∷ []

  -- the seat woke these tasks one after the other, and those behind them are left: so its old notes became the new ones
  abbrev pub HaveNoted : ℕ → List ℕ → List ℕ → View B → List Note → List Note → Type 0
  HaveNoted p [] left v old new = new ≡ old
  HaveNoted p (t ∷ ts) left v old new = (way : Way)
      × HaveNoted p ts left v (wake_notes p t way (ts ++ left) v ++ old) new

  -- the head of p was shut, these tasks of its chain were made ready, and those are left; nothing else of the view has
  -- changed but for its notes, which say so
  pub record HasWoken (p : ℕ) (woken left : List ℕ) (v w : View B) : Type 0 where
    pub noted : HaveNoted p woken left v v.notes w.notes
    pub view : w ≡ record v {
      steps = w.steps;
      plain_loads = v.plain_loads + length woken;
      shuts = without p v.shuts;
      rest = rest_of p left;
      closed = p ∷ v.closed;
      notes = w.notes;
    }

  -- the seat knows more, and has noted nothing since
  pub record HasNotedNothing (v w : View B) : Type 0 where
    pub knows : KnowsMore v w
    pub notes : w.notes ≡ v.notes

  module _ {P : Type 0} (puts : P → CellId → P → Type 0) where
    -- each of these n tasks was made ready and put into the pool, and nobody is left; these are the steps that were
    -- made
    pub record WakesAll (p n : ℕ) (old new : Seat B) (a b : P) : Type 0 where
      pub chain : List ℕ
      pub all : length chain ≡ n
      pub woke : HasWoken p chain [] old.me.0 new.me.0
      pub put : HavePut puts chain a b
      pub steps : MakesWake p chain [] old new

    -- each of these tasks was made ready and put into the pool; one more was made ready, of which the pool has
    -- nothing; the others are left; these are the steps that were made
    pub record WakesSome (same : P → P → Type 0) (p : ℕ) (old new : Seat B) (a b : P) : Type 0 where
      pub woken : List ℕ
      pub next : ℕ
      pub left : List ℕ
      pub between : P
      pub woke : HasWoken p (woken ++ next ∷ []) left old.me.0 new.me.0
      pub put : HavePut puts woken a between
      pub refused : same between b
      pub steps : MakesWake p (woken ++ next ∷ []) left old new
