-- What a call that blocks on a wait leaves in the log of its seat: which steps it made, and in which order.
use Rattle.std.specs.Prelude.{◌≡◌, ◌≢◌, ◌⊎◌, ℕ, suc, ◌<◌, min, List, [], ◌∷◌, ◌++◌, Option, Some, None}
use Rattle.tj_base.specs.declared.cell.CellId.{CellId}
use Rattle.tj_events.specs.declared.walk.Way.{Way}
use Rattle.tj_events.specs.declared.walk.Way.TheVariants.{Along, Other}
use Rattle.tj_log.specs.Shown.{SeatShown}
use Rattle.tj_log.specs.declared.entry.Entry.{Entry}
use Rattle.tj_words.specs.CallLaws.StepCalls as call
use Rattle.tj_words.specs.CallLaws.StepLogs.{IsLogged, entry_of}
use Rattle.tj_words.specs.declared.phase.Phase.{Phase}
use Rattle.tj_words.specs.declared.phase.Phase.TheVariants.{Waiting}
use Rattle.tj_words.specs.declared.phase.Walk.{Walk}
use Rattle.tj_words.specs.declared.phase.Walk.TheVariants.{Walking, Alarmed}
use Rattle.tj_record.specs.declared.record.Rec.{Rec}
use Rattle.tj_words.specs.declared.view.View.{View}
use Rattle.tj_words.specs.Steps.StepEvents.{wait_in}
use Rattle.tj_words.specs.Words.Owners.{owner_word}
use Rattle.tj_words.specs.Words.Phases.{phase_word}
use Rattle.tj_detect.specs.declared.blocking.Verdict.{Verdict}
use Rattle.tj_detect.specs.declared.blocking.Verdict.TheVariants.{Alarm, Walked, Skipped}

-- the load of OWN of cell p, which named this owner, or nobody
abbrev pub owner_seen : ℕ → Option ℕ → Entry
owner_seen p o = entry_of (call.sees_owner p) 0 0 (owner_word o)

-- the load of PHASE of task u, which was this
abbrev pub phase_seen : ℕ → Phase → Entry
phase_seen u was = entry_of (call.sees_phase u) 0 0 (phase_word was)

-- the store by which t waits for q, with its walk like this
abbrev pub wait_store : ℕ → CellId → Way → Walk → Entry
wait_store t q way walk =
    entry_of (call.puts_phase t) (phase_word (Waiting q way walk)) 0 (phase_word (Waiting q way walk))

-- how the call begins: an other wait raises OTHERS from k, and is published; one along the order is published, and
-- then OTHERS is loaded as k. The last step stands first
abbrev pub first_steps : ℕ → CellId → Way → ℕ → List Entry
first_steps t q Along k = entry_of (call.sees_others_by t) 0 0 k ∷ wait_store t q Along Walking ∷ []
first_steps t q Other k = wait_store t q Other Walking ∷ entry_of (call.raises_others t) 1 0 k ∷ []

-- how it ends
abbrev pub last_steps : Verdict → ℕ → CellId → Way → List Entry
last_steps Alarm t q way = wait_store t q way Alarmed ∷ []
last_steps Walked t q way = []
last_steps Skipped t q way = []

-- a seat of the table, as a contract sees it
abbrev pub Seat : Type 0 → Type 0
Seat B = SeatShown (Option (Rec B)) (View B)

module _ {B : Type 0} where
  -- the seat has made these steps more, and no other
  abbrev pub Makes : List Entry → Seat B → Seat B → Type 0
  Makes es old new = (new.log ≡ es ++ old.log) × (new.took ≡ old.took)

  -- OWN of p named a task other than t, which waits for the cell next by its PHASE, and then OWN named it again
  abbrev pub PassesOwner : ℕ → ℕ → ℕ → Seat B → Seat B → Type 0
  PassesOwner t p next old new = (u : ℕ) × (was : Phase) × (u ≢ t) × (wait_in was ≡ Some next)
      × Makes (owner_seen p (Some u) ∷ phase_seen u was ∷ owner_seen p (Some u) ∷ []) old new

  -- OWN of p named a task other than t that waits for nothing by its PHASE
  abbrev pub EndsAtNoWait : ℕ → ℕ → Seat B → Seat B → Type 0
  EndsAtNoWait t p old new = (u : ℕ) × (was : Phase) × (u ≢ t) × (wait_in was ≡ None)
      × Makes (phase_seen u was ∷ owner_seen p (Some u) ∷ []) old new

  -- OWN of p named a task other than t that waits for a cell by its PHASE, and then OWN named it no more
  abbrev pub EndsAtChange : ℕ → ℕ → Seat B → Seat B → Type 0
  EndsAtChange t p old new = (u next : ℕ) × (was : Phase) × (again : Option ℕ) × (u ≢ t) × (wait_in was ≡ Some next)
      × (again ≢ Some u) × Makes (owner_seen p again ∷ phase_seen u was ∷ owner_seen p (Some u) ∷ []) old new

  -- a walk ends at the cell p, without an alarm: OWN named nobody, or one of the two held
  abbrev pub EndsAtOwner : ℕ → ℕ → Seat B → Seat B → Type 0
  EndsAtOwner t p old new =
      Makes (owner_seen p None ∷ []) old new ⊎ (EndsAtNoWait t p old new ⊎ EndsAtChange t p old new)

  -- the loads of a walk of t from the cell p on, over so many owners at most: it passes as many, and ends there; or it
  -- ends at an owner before, or finds t as one, which is an alarm
  pub data MakesHops (t : ℕ) : ℕ → ℕ → Verdict → Seat B → Seat B → Type 0 where
    passes_all : (p : ℕ) (old : Seat B) → MakesHops t 0 p Walked old old
    ends_there : (left p : ℕ) (old new : Seat B) → EndsAtOwner t p old new → MakesHops t (suc left) p Walked old new
    finds_own : (left p : ℕ) (old new : Seat B) → Makes (owner_seen p (Some t) ∷ []) old new
        → MakesHops t (suc left) p Alarm old new
    passes_one : (left p next : ℕ) (verdict : Verdict) (old between new : Seat B) → PassesOwner t p next old between
        → MakesHops t left next verdict between new → MakesHops t (suc left) p verdict old new

  -- the steps of a walk: COUNT is loaded, and as many owners are passed at most as it counts cells of the table
  pub record MakesWalk (cells t : ℕ) (q : CellId) (way : Way) (verdict : Verdict) (old new : Seat B) : Type 0 where
    pub count : ℕ
    pub counted : Seat B
    pub walked : Seat B
    pub loads_count : IsLogged call.counts 0 0 count old counted
    pub hops : MakesHops t (min count cells) q.0 verdict counted walked
    pub ends : Makes (last_steps verdict t q way) walked new

  -- the steps of a call that walks, after OTHERS was found as k; on a wait along the order that isn't 0
  pub record MakesBlock (cells t : ℕ) (q : CellId) (way : Way) (verdict : Verdict) (old new : Seat B) : Type 0 where
    pub others : ℕ
    pub some : way ≡ Along → 0 < others
    pub begun : Seat B
    pub begins : Makes (first_steps t q way others) old begun
    pub walks : MakesWalk cells t q way verdict begun new

  -- the steps of the call: where it skips the walk, OTHERS was loaded as 0, and nothing after that
  abbrev pub LogsBlock : ℕ → ℕ → CellId → Way → Verdict → Seat B → Seat B → Type 0
  LogsBlock cells t q way Alarm old new = MakesBlock cells t q way Alarm old new
  LogsBlock cells t q way Walked old new = MakesBlock cells t q way Walked old new
  LogsBlock cells t q way Skipped old new = (way ≡ Along) × Makes (first_steps t q Along 0) old new
