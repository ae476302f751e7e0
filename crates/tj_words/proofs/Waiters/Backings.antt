-- What a seat holds that has something to come, after each step.
use Rattle.tj_words.proofs.Prelude.{Any, Backing, Custody, Does, DoesRun, DoesWalk, Due, HasAlarmed, HasWake}
use Rattle.tj_words.proofs.Prelude.{HasWakeToCome, Holds, IsBacked, IsSeat, IsSeatOf, Key, List, Option, Push, Rest}
use Rattle.tj_words.proofs.Prelude.{Some, View, dite, held_in, inl, inr, seat_part, subst, sym, ℕ, ℕ_discrete, ⊎_elim}
use Rattle.tj_words.proofs.Prelude.{◌<◌, ◌∙◌, ◌≡◌, ◌≢◌, ◌⊎◌}
use Rattle.tj_words.proofs.Lemmas.{same_some}
use Rattle.tj_words.proofs.Waiters.LiveSteps.{backing_running, backing_walking, alarms_else}
use Rattle.tj_words.specs.declared.offsets.Once.TheVariants as once

module _ {B : Type 0} where
  -- a TAG is to come
  abbrev pub HasTagToCome : View B → Type 0
  HasTagToCome v = Any (λ (d : Due). d.word ≡ once.Tag) v.dues

  -- a seat with other steps of the chains to come, where it is backed if it has one
  pub wakes_seat : (key : Key B) (v : View B) → IsSeat key v → (pushes : List Push) (shuts : List ℕ)
      (rest : Option Rest)
      → (HasWake pushes shuts rest → IsBacked v)
      → IsSeatOf key (record (seat_part v) { pushes = pushes; shuts = shuts; rest = rest })
  wakes_seat key v h pushes shuts rest wakes = record {
    about = h.about;
    named = h.named;
    within_lot = h.within_lot;
    backing = record { wakes = wakes; tags = h.backing.tags; alarms = h.backing.alarms };
    known_born = h.known_born;
  }

  -- a seat has as many tokens as before, and what it has for one task is changed
  module _ (v w : View B) (t : ℕ) (tokens : w.tokens ≡ v.tokens)
      (else : (u : ℕ) → u ≢ t → held_in w.tasks u ≡ held_in v.tasks u) where
    -- what it held of other tasks it holds
    holds_else : (F : Does → Type 0)
        → ((k : Custody B) → held_in v.tasks t ≡ Some k → F k.does → Holds F w) → Holds F v
        → Holds F w
    holds_else F here h = dite (ℕ_discrete h.0 t)
        (λ q. here h.1 (subst (λ u. held_in v.tasks u ≡ Some h.1) q h.2) h.3)
        (λ n. (h.0, h.1, else h.0 n ∙ h.2, h.3))

    token_else : 0 < v.tokens → 0 < w.tokens
    token_else h = subst (λ n. 0 < n) (sym tokens) h

    -- the task runs now: it was claimed, or goes on
    pub backing_runs : (k : Custody B) → held_in w.tasks t ≡ Some k → DoesRun k.does → ¬ HasAlarmed k.does
        → Backing v
        → Backing w
    backing_runs k e r n b = backing_running w (t, k, e, r)
        (alarms_else v w t tokens else
        (λ k' q. subst (λ (z : Custody B). ¬ HasAlarmed z.does) (same_some e q) n) b)

    -- the task walks now: its wait is published
    pub backing_publish : (k : Custody B) → held_in w.tasks t ≡ Some k → DoesWalk k.does → ¬ HasAlarmed k.does
        → (HasWakeToCome w → 0 < w.tokens) → Backing v
        → Backing w
    backing_publish k e walks n wakes b = backing_walking w (t, k, e, walks) (λ h. inl (wakes h))
        (alarms_else v w t tokens else
        (λ k' q. subst (λ (z : Custody B). ¬ HasAlarmed z.does) (same_some e q) n) b)

    -- the task did neither, and does neither; or it walks on; the seat has no more to come
    pub backing_turns : ((k : Custody B) → held_in v.tasks t ≡ Some k → DoesRun k.does → Holds DoesRun w)
        → ((k : Custody B) → held_in v.tasks t ≡ Some k → DoesWalk k.does → Holds DoesWalk w)
        → ((k : Custody B) → held_in w.tasks t ≡ Some k → ¬ HasAlarmed k.does)
        → (HasWakeToCome w → HasWakeToCome v) → (HasTagToCome w → HasTagToCome v) → Backing v
        → Backing w
    backing_turns runs walks alarms wakes tags b = record {
      wakes = λ h. ⊎_elim (λ (l : 0 < v.tokens). inl (token_else l))
          (λ (r : Holds DoesRun v). inr (holds_else DoesRun runs r)) (b.wakes (wakes h));
      tags = λ h. ⊎_elim (λ (l : 0 < v.tokens). inl (token_else l))
          (λ (r : Holds DoesRun v ⊎ Holds DoesWalk v). inr (⊎_elim
          (λ (k : Holds DoesRun v). inl (holds_else DoesRun runs k))
          (λ (k : Holds DoesWalk v). inr (holds_else DoesWalk walks k)) r)) (b.tags (tags h));
      alarms = alarms_else v w t tokens else alarms b;
    }
