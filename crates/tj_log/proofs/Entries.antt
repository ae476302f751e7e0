-- What the views have at a number, after one of them has changed.
use Rattle.std.proofs.Common.{◌≡◌, ◌≢◌, ℕ, zero, suc, cond, length, ◌<◌, eqb, eq-eqb, ne_eqb, List, [], ◌∷◌, ◌++◌}
use Rattle.std.proofs.Common.{set, sym, refl, ap, ◌∙◌, arith}
use Rattle.std.proofs.lemmas.Bool.{cond-true, cond-false}
use mathlib.Core.Option.{some, some-injective, some-ne-none}
use mathlib.Core.Logic.{dite}
use native.Mathlib.Decide.{ℕ_discrete}
use lib.ListN.{get_elem?}
use Rattle.tj_log.specs.declared.entry.Logged.{Logged}
use Rattle.tj_log.specs.Runs.{entries_at}

-- what is so in either case is so of the choice
pub pick : {A : Type 0} (j i : ℕ) (x y z : A) → (j ≡ i → z ≡ x) → (j ≢ i → z ≡ y) → z ≡ cond (eqb j i) x y
pick j i x y z hit miss = dite (ℕ_discrete j i) (λ e. hit e ∙ sym (cond-true (eqb j i) x y (eq-eqb j i e)))
    (λ ne. miss ne ∙ sym (cond-false (eqb j i) x y (ne_eqb j i ne)))

module _ {V A : Type 0} (f : Logged V → List A) where
  pub there : (vs : List (Logged V)) (i : ℕ) (v : Logged V) → get_elem? vs i ≡ some v → entries_at f vs i ≡ f v
  there [] i v e = absurd (some-ne-none v (sym e))
  there (x ∷ xs) zero v e = ap f (some-injective x v e)
  there (x ∷ xs) (suc i) v e = there xs i v e

  pub here : (vs : List (Logged V)) (i : ℕ) (v w : Logged V) → get_elem? vs i ≡ some v
      → entries_at f (set vs i w) i ≡ f w
  here [] i v w e = absurd (some-ne-none v (sym e))
  here (x ∷ xs) zero v w e = refl
  here (x ∷ xs) (suc i) v w e = here xs i v w e

  pub else : (vs : List (Logged V)) (i j : ℕ) (w : Logged V) → j ≢ i → entries_at f (set vs i w) j ≡ entries_at f vs j
  else [] i j w n = refl
  else (x ∷ xs) zero zero w n = absurd (n refl)
  else (x ∷ xs) zero (suc j) w n = refl
  else (x ∷ xs) (suc i) zero w n = refl
  else (x ∷ xs) (suc i) (suc j) w n = else xs i j w (λ e. n (ap suc e))

  -- a change that leaves this leaves it at each number
  pub same : (vs : List (Logged V)) (i j : ℕ) (v w : Logged V) → get_elem? vs i ≡ some v → f w ≡ f v
      → entries_at f (set vs i w) j ≡ entries_at f vs j
  same vs i j v w at e = dite (ℕ_discrete j i)
      (λ is. ap (λ (k : ℕ). entries_at f (set vs i w) k) is
      ∙ (here vs i v w at ∙ (e ∙ (sym (there vs i v at) ∙ ap (λ (k : ℕ). entries_at f vs k) (sym is)))))
      (λ ne. else vs i j w ne)

  -- a new view that has none
  pub snoc : (vs : List (Logged V)) (j : ℕ) (w : Logged V) → f w ≡ []
      → entries_at f (vs ++ w ∷ []) j ≡ entries_at f vs j
  snoc [] zero w e = e
  snoc [] (suc j) w e = refl
  snoc (x ∷ xs) zero w e = refl
  snoc (x ∷ xs) (suc j) w e = snoc xs j w e

-- an element stands below the length
pub at_bound : {A : Type 0} (l : List A) (i : ℕ) (a : A) → get_elem? l i ≡ some a → i < length l
at_bound [] i a e = absurd (some-ne-none a (sym e))
at_bound (x ∷ xs) zero a e = omega arith
at_bound (x ∷ xs) (suc i) a e = let h = at_bound xs i a e in omega arith
