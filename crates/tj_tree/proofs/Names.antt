-- The fork order on names, of a further child and of a common beginning.
use Rattle.std.proofs.Common.{◌≡◌, ◌≢◌, ℕ, ◌<◌, true, false, nat_eq, [], ◌∷◌, ◌++◌, refl, sym, ◌∙◌, subst, inl, inr, arith}
use Rattle.std.proofs.lemmas.Bool.{cases_eq}
use Rattle.std.proofs.lemmas.Bool.Decides.{nat_tests}
use Rattle.tj_base.specs.ForkOrder.{Name, before}

-- a common beginning doesn't count
pub before-append_same : (common a b : Name) → before (common ++ a) (common ++ b) ≡ before a b
before-append_same [] a b = refl
before-append_same (x ∷ common) a b = let rest = before-append_same common a b in grind (arith, nat_tests, rest)

eq_other : (x y : ℕ) → x ≢ y → nat_eq x y ≡ false
eq_other x y h = grind (arith, nat_tests, h)

first_other : (x y : ℕ) (a b c : Name) → x ≢ y → before (x ∷ a) (y ∷ c) ≡ before (x ∷ b) (y ∷ c)
first_other x y a b c h = let e = eq_other x y h in grind (arith, nat_tests, e)

second_other : (x y : ℕ) (a b c : Name) → x ≢ y → before (x ∷ a) (y ∷ b) ≡ before (x ∷ a) (y ∷ c)
second_other x y a b c h = let e = eq_other x y h in grind (arith, nat_tests, e)

first_same : (x : ℕ) (a b : Name) → before (x ∷ a) (x ∷ b) ≡ before a b
first_same x a b = before-append_same (x ∷ []) a b

-- the last child of p is before what p is before
pub before-last_child_first : (p b : Name) (k : ℕ) → ((j : ℕ) (rest : Name) → b ≡ p ++ j ∷ rest → j < k)
    → before (p ++ k ∷ []) b ≡ before p b
before-last_child_first [] [] k last = refl
before-last_child_first [] (j ∷ b) k last = let less = last j b refl in grind (arith, nat_tests, less)
before-last_child_first (x ∷ p) [] k last = refl
before-last_child_first (x ∷ p) (y ∷ b) k last =
    elim (cases_eq x y) [
      | inl same ↦
          let rest = before-last_child_first p b k (λ j r e. last j r (cc)) in
          subst (λ z. before (x ∷ p ++ k ∷ []) (z ∷ b) ≡ before (x ∷ p) (z ∷ b)) same
          (first_same x (p ++ k ∷ []) b ∙ rest ∙ sym (first_same x p b))
      | inr other ↦ first_other x y (p ++ k ∷ []) p b other
    ]

-- what is before p, but isn't p, is before the last child of p, and nothing else is
pub before-last_child_last : (a p : Name) (k : ℕ) → a ≢ p → ((j : ℕ) (rest : Name) → a ≡ p ++ j ∷ rest → j < k)
    → before a (p ++ k ∷ []) ≡ before a p
before-last_child_last [] [] k ne last = absurd (ne refl)
before-last_child_last [] (y ∷ p) k ne last = refl
before-last_child_last (j ∷ a) [] k ne last = let less = last j a refl in grind (arith, nat_tests, less)
before-last_child_last (x ∷ a) (y ∷ p) k ne last =
    elim (cases_eq x y) [
      | inl same ↦
          let rest = before-last_child_last a p k (λ e. ne (cc)) (λ j r e. last j r (cc)) in
          subst (λ z. before (x ∷ a) (z ∷ p ++ k ∷ []) ≡ before (x ∷ a) (z ∷ p)) same
          (first_same x a (p ++ k ∷ []) ∙ rest ∙ sym (first_same x a p))
      | inr other ↦ second_other x y a (p ++ k ∷ []) p other
    ]

-- a parent is before its child
pub before-child : (p : Name) (k : ℕ) → before p (p ++ k ∷ []) ≡ true
before-child [] k = refl
before-child (x ∷ p) k = first_same x p (p ++ k ∷ []) ∙ before-child p k
