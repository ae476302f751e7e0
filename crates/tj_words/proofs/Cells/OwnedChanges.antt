-- What the tasks own, where one cell has another owner.
use Rattle.tj_words.proofs.Prelude.{AreApart, Hand, IsIn, IsThere, List, None, Option, OwnedLists, Some, [], at_put}
use Rattle.tj_words.proofs.Prelude.{in_either, in_left, in_right, inl, inr, put, put_here, refl, subst, sym, without, ℕ}
use Rattle.tj_words.proofs.Prelude.{⊎_elim, ◌++◌, ◌↔◌, ◌∙◌, ◌∷◌, ◌≡◌, ◌≢◌, ◌⊎◌}
use Rattle.tj_words.proofs.Lemmas.{none_some, one_some}
use Rattle.tj_words.proofs.Waiters.ChainLists.{of_without, apart_without}
use Rattle.tj_words.proofs.Waiters.ChainHeads.{in_without}

-- a number more, which isn't among them, leaves numbers apart
pub apart_snoc : (c : ℕ) (l : List ℕ) → AreApart l → ¬ IsIn c l → AreApart (l ++ c ∷ [])
apart_snoc c [] a n = ((λ i. i), tt)
apart_snoc c (x ∷ xs) a n = (
  (λ i. ⊎_elim (λ (j : IsIn x xs). a.0 j)
      (λ (j : IsIn x (c ∷ [])). ⊎_elim (λ (e : x ≡ c). n (inl (sym e))) (λ (k : IsIn x []). k) j)
      (in_either x xs (c ∷ []) i)),
  apart_snoc c xs a.1 (λ j. n (inr j)),
)

module _ {n : ℕ} {hand : ℕ → Option Hand} {own : ℕ → Option ℕ} {owned : ℕ → List ℕ} (r : OwnedLists n hand own owned)
    (c : ℕ) where
  -- the list of one task has a cell more, which stood in none and which it owns: so the lists are right
  pub owned_gives : ((u : ℕ) → ¬ IsIn c (owned u)) → (hand' : ℕ → Option Hand) → IsThere n hand' c
      → ((d : ℕ) → IsThere n hand d → IsThere n hand' d)
      → ((d : ℕ) → d ≢ c → IsThere n hand' d → IsThere n hand d)
      → (o : ℕ) (l : List ℕ) → owned o ≡ l
      → OwnedLists n hand' (put own c (Some o)) (put owned o (l ++ c ∷ []))
  owned_gives new hand' there on off o l e = record {
    owners = λ d u i. at_put own c (Some o) (λ d z. IsThere n hand' d → (z ≡ Some u) ↔ IsIn d (now u)) d
        (λ i. (
          (λ e. subst (λ z. IsIn c (now z)) (one_some o u e)
              (subst (IsIn c) (sym (put_here owned o (l ++ c ∷ []))) (in_right c l (c ∷ []) (inl refl)))),
          (λ i. at_put owned o (l ++ c ∷ []) (λ u y. IsIn c y → Some o ≡ Some u) u (λ _. refl)
              (λ k i. absurd (new u i)) i),
        ))
        (λ k i. let w = r.owners d u (off d k i) in (
          (λ e. at_put owned o (l ++ c ∷ []) (λ u y. (own d ≡ Some u) → IsIn d y) u
              (λ e. in_left d l (c ∷ []) (listed d ((r.owners d o (off d k i)).0 e))) (λ _ e. w.0 e) e),
          (λ i. w.1 (at_put owned o (l ++ c ∷ []) (λ u y. IsIn d y → IsIn d (owned u)) u
              (λ i. ⊎_elim (λ z. z) (λ z. absurd (k z)) (is d i)) (λ _ i. i) i)),
        )) i;
    owned_there = λ d u i. at_put owned o (l ++ c ∷ []) (λ u y. IsIn d y → IsThere n hand' d) u
        (λ i. ⊎_elim (λ z. on d (r.owned_there d o z)) (λ z. subst (IsThere n hand') (sym z) there) (is d i))
        (λ _ i. on d (r.owned_there d u i)) i;
    owned_apart = λ u. at_put owned o (l ++ c ∷ []) (λ u y. AreApart y) u
        (apart_snoc c l (subst AreApart e (r.owned_apart o)) (λ i. new o (subst (IsIn c) (sym e) i)))
        (λ _. r.owned_apart u);
  }
    where
      now : ℕ → List ℕ
      now = put owned o (l ++ c ∷ [])

      listed : (d : ℕ) → IsIn d (owned o) → IsIn d l
      listed d i = subst (IsIn d) e i

      is : (d : ℕ) → IsIn d (l ++ c ∷ []) → IsIn d (owned o) ⊎ (d ≡ c)
      is d i = ⊎_elim (λ (j : IsIn d l). inl (subst (IsIn d) (sym e) j)) (λ (j : IsIn d (c ∷ [])). inr (only j))
          (in_either d l (c ∷ []) i)
        where
          only : IsIn d (c ∷ []) → d ≡ c
          only (inl e) = e
          only (inr i) = absurd i

  -- the list of its owner has lost a cell, which nobody owns from then on: so the lists are right
  pub owned_loses : IsThere n hand c → (t : ℕ) → own c ≡ Some t → (l : List ℕ) → owned t ≡ l
      → OwnedLists n hand (put own c None) (put owned t (without c l))
  owned_loses there t owns l e = record {
    owners = λ d u i. at_put own c None (λ d z. IsThere n hand d → (z ≡ Some u) ↔ IsIn d (now u)) d
        (λ _. ((λ q. none_some None u refl q), (λ j. absurd (gone u j))))
        (λ k i. let w = r.owners d u i in (
          (λ q. at_put owned t (without c l) (λ u y. (own d ≡ Some u) → IsIn d y) u
              (λ q. in_without c d l k (subst (IsIn d) e ((r.owners d t i).0 q))) (λ _ q. w.0 q) q),
          (λ j. w.1 (was d u j)),
        )) i;
    owned_there = λ d u j. r.owned_there d u (was d u j);
    owned_apart = λ u. at_put owned t (without c l) (λ u y. AreApart y) u
        (apart_without c l (subst AreApart e (r.owned_apart t))) (λ _. r.owned_apart u);
  }
    where
      now : ℕ → List ℕ
      now = put owned t (without c l)

      was : (d u : ℕ) → IsIn d (now u) → IsIn d (owned u)
      was d u = at_put owned t (without c l) (λ u y. IsIn d y → IsIn d (owned u)) u
          (λ j. subst (IsIn d) (sym e) (of_without c d l j).0) (λ _ j. j)

      gone : (u : ℕ) → ¬ IsIn c (now u)
      gone u = at_put owned t (without c l) (λ u y. ¬ IsIn c y) u (λ j. (of_without c c l j).1 refl)
          (λ k j. k (one_some u t (sym ((r.owners c u there).1 j) ∙ owns)))
