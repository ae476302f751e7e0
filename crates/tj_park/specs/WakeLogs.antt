-- What a wake leaves in the log of the seat: the swap of the head, which takes the chain; and then, for each task of
-- the chain in its order, the loads of NEXT and PHASE, LIVE raised, PHASE exchanged for Ready, and OTHERS lowered where
-- the task's wait was counted there.
use Rattle.std.specs.Prelude.{◌≡◌, ◌⊎◌, ℕ, List, [], ◌∷◌, ◌++◌}
use Rattle.tj_events.specs.declared.walk.Way.{Way}
use Rattle.tj_log.specs.declared.entry.Entry.{Entry}
use Rattle.tj_cells.specs.CallLogs.{Makes, Seat}
use Rattle.tj_words.specs.CallLaws.StepCalls as call
use Rattle.tj_words.specs.CallLaws.StepLogs.{entry_of}
use Rattle.tj_words.specs.LawParts.Chains.{head_of, parked_phase}
use Rattle.tj_words.specs.Words.Heads.{head_word, shut_word}
use Rattle.tj_words.specs.Words.Phases.{phase_word}
use Rattle.tj_words.specs.declared.head.Head.{Head}
use Rattle.tj_words.specs.declared.head.Head.TheVariants as head
use Rattle.tj_words.specs.declared.phase.Phase.{Phase}
use Rattle.tj_words.specs.declared.phase.Phase.TheVariants as phase
use Rattle.tj_park.specs.ParkLogs.{exchange_entry, lowering}

-- the swap of the head of p for a shut one, which found this head
abbrev pub head_shut : ℕ → Head → Entry
head_shut p found = entry_of (call.shuts p) shut_word 0 (head_word found)

-- the load of NEXT of t, which named this head
abbrev pub next_seen : ℕ → Head → Entry
next_seen t behind = entry_of (call.sees_next t) 0 0 (head_word behind)

-- the load of PHASE of t, which was this
abbrev pub phase_seen : ℕ → Phase → Entry
phase_seen t was = entry_of (call.sees_phase t) 0 0 (phase_word was)

-- the steps by which t, which is parked on p this way with these behind it, becomes ready, the last of them first:
-- LIVE was the one number before it was raised, and OTHERS the other before it was lowered
abbrev pub ready_entries : ℕ → ℕ → Way → List ℕ → ℕ → ℕ → List Entry
ready_entries p t way behind live others = lowering way others
    ++ (exchange_entry t (parked_phase p way) phase.Ready ∷ entry_of call.raises_live 1 0 live
    ∷ phase_seen t (parked_phase p way) ∷ next_seen t (head_of behind) ∷ [])

-- the head names the first of this chain, or nobody where it is empty; or it was shut already, and nobody is in it
abbrev pub IsHeadOf : Head → List ℕ → Type 0
IsHeadOf found chain = (found ≡ head_of chain) ⊎ ((found ≡ head.Shut) × (chain ≡ []))

module _ {B : Type 0} where
  -- t, behind which these wait for p, was made ready
  abbrev pub MakesReady : ℕ → ℕ → List ℕ → Seat B → Seat B → Type 0
  MakesReady p t behind old new = (way : Way) × (live others : ℕ)
      × Makes (ready_entries p t way behind live others) old new

  -- these tasks were made ready one after the other, each once, those are left behind them, and no other step was made
  abbrev pub MakeReady : ℕ → List ℕ → List ℕ → Seat B → Seat B → Type 0
  MakeReady p [] left old new = new ≡ old
  MakeReady p (t ∷ ts) left old new = (after : Seat B) × MakesReady p t (ts ++ left) old after
      × MakeReady p ts left after new

  -- the head of p was shut, and of the chain that was found the first tasks were made ready; those are left
  abbrev pub MakesWake : ℕ → List ℕ → List ℕ → Seat B → Seat B → Type 0
  MakesWake p woken left old new = (found : Head) × (shut : Seat B) × IsHeadOf found (woken ++ left)
      × Makes (head_shut p found ∷ []) old shut × MakeReady p woken left shut new
