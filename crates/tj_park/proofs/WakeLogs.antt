-- The steps of a wake in the log of its seat, one after the other.
use Rattle.std.proofs.Common.{◌≡◌, ℕ, List, [], ◌∷◌, ◌++◌, refl, sym, subst}
use Rattle.std.proofs.Common.{append_assoc}
use Rattle.tj_cells.proofs.CallLogs.{grows_by, grows_on, grows_still, makes_on, makes_one}
use Rattle.tj_cells.specs.CallLogs.{Grows, Makes, Seat}
use Rattle.tj_events.specs.declared.walk.Way.{Way}
use Rattle.tj_words.specs.CallLaws.StepCalls as call
use Rattle.tj_words.specs.CallLaws.StepLogs.{entry_of}
use Rattle.tj_words.specs.LawParts.Chains.{head_of, parked_phase}
use Rattle.tj_words.specs.declared.head.Head.{Head}
use Rattle.tj_words.specs.declared.phase.Phase.{Phase}
use Rattle.tj_words.specs.declared.phase.Phase.TheVariants as phase
use Rattle.tj_park.specs.ParkLogs.{MakesLowered, exchange_entry, lowering}
use Rattle.tj_park.specs.WakeLogs.{IsHeadOf, MakeReady, MakesReady, MakesWake, head_shut, next_seen, phase_seen}
use Rattle.tj_park.specs.WakeLogs.{ready_entries}

module _ {B : Type 0} where
  module _ (p t : ℕ) (left : List ℕ) (way : Way) (live others : ℕ) (u v w x y z : Seat B)
      (next : Makes (next_seen t (head_of left) ∷ []) u v)
      (seen : Makes (phase_seen t (parked_phase p way) ∷ []) v w)
      (up : Makes (entry_of call.raises_live 1 0 live ∷ []) w x)
      (swapped : Makes (exchange_entry t (parked_phase p way) phase.Ready ∷ []) x y)
      (lowered : Makes (lowering way others) y z) where
    made_four : Makes (exchange_entry t (parked_phase p way) phase.Ready ∷ entry_of call.raises_live 1 0 live
        ∷ phase_seen t (parked_phase p way) ∷ next_seen t (head_of left) ∷ []) u y
    made_four = makes_one u x y (entry_of call.raises_live 1 0 live ∷ phase_seen t (parked_phase p way)
        ∷ next_seen t (head_of left) ∷ []) (exchange_entry t (parked_phase p way) phase.Ready)
        (makes_one u w x (phase_seen t (parked_phase p way) ∷ next_seen t (head_of left) ∷ [])
        (entry_of call.raises_live 1 0 live)
        (makes_one u v w (next_seen t (head_of left) ∷ []) (phase_seen t (parked_phase p way)) next seen) up) swapped

    -- a task was made ready, whose phase and the one behind it were read
    made_ready : MakesReady p t left u z
    made_ready = (
      way,
      live,
      others,
      makes_on u y z (exchange_entry t (parked_phase p way) phase.Ready ∷ entry_of call.raises_live 1 0 live
          ∷ phase_seen t (parked_phase p way) ∷ next_seen t (head_of left) ∷ []) (lowering way others) made_four
          lowered,
    )

  -- the same by what was read
  pub read_ready : (p t : ℕ) (left : List ℕ) (way : Way) (live : ℕ) (u v w x y z : Seat B) (next : Head) (was : Phase)
      → next ≡ head_of left → was ≡ parked_phase p way → Makes (next_seen t next ∷ []) u v
      → Makes (phase_seen t was ∷ []) v w → Makes (entry_of call.raises_live 1 0 live ∷ []) w x
      → Makes (exchange_entry t was phase.Ready ∷ []) x y → MakesLowered was y z → MakesReady p t left u z
  read_ready p t left way live u v w x y z next was behind is read seen up swapped lower =
      let low : MakesLowered (parked_phase p way) y z = subst (λ q. MakesLowered q y z) is lower in
      made_ready p t left way live low.0 u v w x y z
      (subst (λ h. Makes (next_seen t h ∷ []) u v) behind read)
      (subst (λ q. Makes (phase_seen t q ∷ []) v w) is seen) up
      (subst (λ q. Makes (exchange_entry t q phase.Ready ∷ []) x y) is swapped) low.1

  -- one task more was made ready, the first of those who were left
  ready_more : (p t : ℕ) (front left : List ℕ) (u v w : Seat B) → MakeReady p front (t ∷ left) u v
      → MakesReady p t left v w → MakeReady p (front ++ t ∷ []) left u w
  ready_more p t [] left u v w h k = (w, subst (λ s. MakesReady p t left s w) h k, refl)
  ready_more p t (x ∷ xs) left u v w h k = (
    h.0,
    subst (λ l. MakesReady p x l u h.0) (sym (append_assoc xs (t ∷ []) left)) h.1,
    ready_more p t xs left h.0 v w h.2 k,
  )

  -- the head was shut, and nobody is woken yet
  pub wake_begins : (p : ℕ) (found : Head) (left : List ℕ) (u v : Seat B) → IsHeadOf found left
      → Makes (head_shut p found ∷ []) u v → MakesWake p [] left u v
  wake_begins p found left u v h m = (found, v, h, m, refl)

  -- one more is woken
  pub wake_more : (p t : ℕ) (front left : List ℕ) (u v w : Seat B) → MakesWake p front (t ∷ left) u v
      → MakesReady p t left v w → MakesWake p (front ++ t ∷ []) left u w
  wake_more p t front left u v w h k = (
    h.0,
    h.1,
    subst (IsHeadOf h.0) (sym (append_assoc front (t ∷ []) left)) h.2,
    h.3,
    ready_more p t front left h.1 v w h.4 k,
  )

  ready_grows : (p : ℕ) (front left : List ℕ) (u v : Seat B) → MakeReady p front left u v → Grows u v
  ready_grows p [] left u v h = subst (Grows u) (sym h) (grows_still u u refl refl)
  ready_grows p (t ∷ ts) left u v h = grows_on u h.0 v
      (grows_by u h.0 (ready_entries p t h.1.0 (ts ++ left) h.1.1 h.1.2) h.1.3) (ready_grows p ts left h.0 v h.2)

  -- a wake makes the log longer
  pub wake_grows : (p : ℕ) (front left : List ℕ) (u v : Seat B) → MakesWake p front left u v → Grows u v
  wake_grows p front left u v h = grows_on u h.1 v (grows_by u h.1 (head_shut p h.0 ∷ []) h.3)
      (ready_grows p front left h.1 v h.4)
