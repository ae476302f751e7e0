-- What is found in a seat's list of tasks in which what it has for one of them is noted anew.
use Rattle.tj_words.proofs.Prelude.{Custody, Does, Holds, IsIn, List, Some, View, ap, dite, held_in, hold, inl, inr}
use Rattle.tj_words.proofs.Prelude.{let_go, noted, subst, sym, ℕ, ℕ_discrete, ⊎_elim, ◌∙◌, ◌≡◌, ◌≢◌, ◌⊎◌}
use Rattle.tj_words.proofs.Lemmas.{IsNoted, back, hold_else, hold_here, noted_is, noted_same}
use Rattle.tj_words.proofs.Holders.HeldChanges.{held_task, let_go_in}
use Rattle.tj_words.proofs.Holders.NotedPairs.{noted_after, noted_before}

module _ {B : Type 0} where
  -- a task does what it did
  abbrev pub DoesSame : Custody B → Custody B → Type 0
  DoesSame k k' = k'.does ≡ k.does

  -- a seat whose tasks do what they did holds one that does so, as it did
  module _ (F : Does → Type 0) (v w : View B)
      (same : (u : ℕ) → IsNoted DoesSame (held_in v.tasks u) (held_in w.tasks u)) where
    pub holds_on : Holds F v → Holds F w
    holds_on h = let a = noted_after DoesSame h.1 (held_in w.tasks h.0)
        (subst (λ o. IsNoted DoesSame o (held_in w.tasks h.0)) h.2 (same h.0)) in
        (h.0, a.0, a.1, subst F (sym a.2) h.3)

    pub holds_back : Holds F w → Holds F v
    holds_back h = let b = noted_before DoesSame (held_in v.tasks h.0) h.1
        (subst (IsNoted DoesSame (held_in v.tasks h.0)) h.2 (same h.0)) in
        (h.0, b.0, b.1, subst F b.2 h.3)

module _ {B : Type 0} (ks : List (Custody B)) (t : ℕ) (k : Custody B) (f : Custody B → Custody B)
    (held : held_in ks t ≡ Some k) (its : (f k).task ≡ k.task) where
  task_is : (f k).task ≡ t
  task_is = its ∙ held_task ks t k held

  -- the task has what was noted
  pub noted_here : held_in (noted t f ks) t ≡ Some (f k)
  noted_here = ap (λ l. held_in l t) (noted_is ks t k f held)
      ∙ (ap (held_in (hold (f k) ks)) (sym task_is) ∙ hold_here (f k) ks)

  -- each other one has what it had
  pub noted_else : (u : ℕ) → u ≢ t → held_in (noted t f ks) u ≡ held_in ks u
  noted_else u n = ap (λ l. held_in l u) (noted_is ks t k f held) ∙ hold_else (f k) u ks (λ e. n (e ∙ task_is))

  -- what stands in the list stood there, or was noted
  pub noted_in : (z : Custody B) → IsIn z (noted t f ks) → IsIn z ks ⊎ (z ≡ f k)
  noted_in z i = ⊎_elim (λ (e : z ≡ f k). inr e)
      (λ (j : IsIn z (let_go (f k).task ks)). inl (let_go_in (f k).task ks z j))
      (subst (IsIn z) (noted_is ks t k f held) i)

  -- as is so of the task that is noted, so of all
  pub noted_as : (R : Custody B → Custody B → Type 0) → ((m : Custody B) → R m m) → R k (f k) → (u : ℕ)
      → IsNoted R (held_in ks u) (held_in (noted t f ks) u)
  noted_as R same rel u = dite (ℕ_discrete u t)
      (λ e. subst (λ z. IsNoted R (held_in ks z) (held_in (noted t f ks) z)) (sym e)
      (back (λ j. IsNoted R (held j) (noted_here j)) rel))
      (λ n. subst (IsNoted R (held_in ks u)) (sym (noted_else u n)) (noted_same R same (held_in ks u)))
