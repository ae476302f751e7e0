-- What a park leaves in the log of the seat: the store of Parked, the load of the head, each push with the store of
-- NEXT before it, and what follows the last of them.
use Rattle.std.specs.Prelude.{◌≢◌, ℕ, Bool, true, false, List, [], ◌∷◌}
use Rattle.tj_events.specs.declared.walk.Way.{Way}
use Rattle.tj_events.specs.declared.walk.Way.TheVariants as way
use Rattle.tj_log.specs.declared.entry.Entry.{Entry}
use Rattle.tj_cells.specs.CallLogs.{Makes, Seat, phase_entry}
use Rattle.tj_words.specs.CallLaws.StepCalls as call
use Rattle.tj_words.specs.CallLaws.StepLogs.{entry_of}
use Rattle.tj_words.specs.LawParts.Chains.{parked_phase}
use Rattle.tj_words.specs.Words.Heads.{head_word}
use Rattle.tj_words.specs.Words.Lists.{cell}
use Rattle.tj_words.specs.Words.Phases.{phase_word}
use Rattle.tj_words.specs.declared.head.Head.{Head}
use Rattle.tj_words.specs.declared.head.Head.TheVariants as head
use Rattle.tj_words.specs.declared.phase.Phase.{Phase}
use Rattle.tj_words.specs.declared.phase.Phase.TheVariants as phase

-- the load of the head of q, which was this
abbrev pub head_load : ℕ → Head → Entry
head_load q found = entry_of (call.sees_head q) 0 0 (head_word found)

-- the store of NEXT of t, to name this head
abbrev pub next_store : ℕ → Head → Entry
next_store t behind = entry_of (call.puts_next t) (head_word behind) 0 (head_word behind)

-- the push of t to the chain of q that asks for one head and finds another, or that very one
abbrev pub push_entry : ℕ → ℕ → Head → Head → Entry
push_entry t q asked found =
    entry_of (call.pushes q) (head_word asked) (head_word (head.Task (cell t))) (head_word found)

-- the exchange of a phase of t, which was found, for this one
abbrev pub exchange_entry : ℕ → Phase → Phase → Entry
exchange_entry t was to = entry_of (call.swaps_phase t) (phase_word was) (phase_word to) (phase_word was)

-- how many waits of this way OTHERS is lowered for: one, or none
abbrev pub lowering : Way → ℕ → List Entry
lowering way.Along n = []
lowering way.Other n = entry_of call.lowers_others 1 0 n ∷ []

module _ {B : Type 0} where
  -- NEXT of t was stored to name one head, and a push that asks for it found this one
  abbrev pub MakesPush : ℕ → ℕ → Head → Head → Seat B → Seat B → Type 0
  MakesPush t q asked found old new = Makes (push_entry t q asked found ∷ next_store t asked ∷ []) old new

  -- from a moment at which the head of q was found to be this on: each push asked for the head that was found last;
  -- those that failed found another one; the last one added t, or the head was found shut at last, and no push came then
  pub data MakesPushes (t q : ℕ) : Bool → Head → Seat B → Seat B → Type 0 where
    adds : (asked : Head) (old new : Seat B) → MakesPush t q asked asked old new → MakesPushes t q true asked old new
    finds_shut : (old : Seat B) → MakesPushes t q false head.Shut old old
    fails : (added : Bool) (asked found : Head) (old between new : Seat B) → found ≢ asked
        → MakesPush t q asked found old between → MakesPushes t q added found between new
        → MakesPushes t q added asked old new

  -- the head of q was loaded, and then t was added, or the head found shut
  abbrev pub MakesJoin : ℕ → ℕ → Bool → Seat B → Seat B → Type 0
  MakesJoin t q added old new = (found : Head) × (looked : Seat B) × Makes (head_load q found ∷ []) old looked
      × MakesPushes t q added found looked new

  -- t was stored as parked on q, and then added to its chain; LIVE was lowered at last
  abbrev pub MakesPark : ℕ → ℕ → Way → Seat B → Seat B → Type 0
  MakesPark t q way old new = (parked joined : Seat B) × (n : ℕ)
      × Makes (phase_entry t (parked_phase q way) ∷ []) old parked
      × MakesJoin t q true parked joined × Makes (entry_of call.lowers_live 1 0 n ∷ []) joined new

  -- t was stored as parked on q, whose head was then found shut; the exchange of this phase for Running found it, and
  -- OTHERS was lowered where the wait was counted there
  abbrev pub MakesReturn : ℕ → ℕ → Way → Seat B → Seat B → Type 0
  MakesReturn t q way old new = (parked joined cleared : Seat B) × (n : ℕ)
      × Makes (phase_entry t (parked_phase q way) ∷ []) old parked
      × MakesJoin t q false parked joined
      × Makes (exchange_entry t (parked_phase q way) phase.Running ∷ []) joined cleared
      × Makes (lowering way n) cleared new

  -- OTHERS was lowered for a wait that was parked like this
  abbrev pub MakesLowered : Phase → Seat B → Seat B → Type 0
  MakesLowered phase.Unborn old new = Makes [] old new
  MakesLowered phase.Ready old new = Makes [] old new
  MakesLowered phase.Running old new = Makes [] old new
  MakesLowered phase.Ended old new = Makes [] old new
  MakesLowered phase.Promise old new = Makes [] old new
  MakesLowered (phase.Waiting c w walk) old new = (n : ℕ) × Makes (lowering w n) old new
