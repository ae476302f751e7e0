-- The fork order computed on two names is the relation in words, and is an order.
use Rattle.std.proofs.Common.{◌≡◌, ℕ, ◌<◌, ◌↔◌, Bool, true, false, nat_eq, nat_lt, ◌&&◌, ◌||◌, inl, inr, [], ◌∷◌, ◌++◌, refl, sym, ap, ◌∙◌, subst, arith}
use Rattle.std.proofs.lemmas.Bool.{eqb-true, ltb-true}
use Rattle.std.proofs.lemmas.Bool.Decides.{nat_tests}
use Rattle.tj_base.specs.ForkOrder.{Name, before, IsBefore}

-- what is before b is before it after one more common number
behind : (k : ℕ) (a b : Name) → IsBefore a b → IsBefore (k ∷ a) (k ∷ b)
behind k a b (inl x) = inl (record { number = x.number; rest = x.rest; goes_on = ap (λ (n : Name). k ∷ n) x.goes_on })
behind k a b (inr x) =
    inr (record {
      common = k ∷ x.common;
      later = x.later;
      earlier = x.earlier;
      rest_of_a = x.rest_of_a;
      rest_of_b = x.rest_of_b;
      a_is = ap (λ (n : Name). k ∷ n) x.a_is;
      b_is = ap (λ (n : Name). k ∷ n) x.b_is;
      larger = x.larger;
    })

at_numbers : (j k : ℕ) (a b : Name) (lt eq : Bool) → nat_lt k j ≡ lt → nat_eq j k ≡ eq → (before a b ≡ true → IsBefore a b) → (lt || (eq && before a b)) ≡ true → IsBefore (j ∷ a) (k ∷ b)
at_numbers j k a b true eq e d rec h =
    inr (record { common = []; later = j; earlier = k; rest_of_a = a; rest_of_b = b; a_is = refl; b_is = refl; larger = ltb-true k j e })
at_numbers j k a b false true e d rec h =
    subst (λ i. IsBefore (i ∷ a) (k ∷ b)) (sym (eqb-true j k d)) (behind k a b (rec h))
at_numbers j k a b false false e d rec h = absurd (cc)

in_words : (a b : Name) → before a b ≡ true → IsBefore a b
in_words [] [] h = absurd (cc)
in_words [] (k ∷ b) h = inl (record { number = k; rest = b; goes_on = refl })
in_words (j ∷ a) [] h = absurd (cc)
in_words (j ∷ a) (k ∷ b) h = at_numbers j k a b (nat_lt k j) (nat_eq j k) refl refl (in_words a b) h

ancestor_before : (a : Name) (k : ℕ) (rest : Name) → before a (a ++ k ∷ rest) ≡ true
ancestor_before [] k rest = refl
ancestor_before (j ∷ a) k rest = let h = ancestor_before a k rest in grind (arith, h)

later_before : (common : Name) (j k : ℕ) (a b : Name) → k < j → before (common ++ j ∷ a) (common ++ k ∷ b) ≡ true
later_before [] j k a b less = grind (arith, less)
later_before (i ∷ common) j k a b less = let h = later_before common j k a b less in grind (arith, h)

computed : (a b : Name) → IsBefore a b → before a b ≡ true
computed a b (inl x) = subst (λ n. before a n ≡ true) (sym x.goes_on) (ancestor_before a x.number x.rest)
computed a b (inr x) =
    subst (λ n. before n b ≡ true) (sym x.a_is)
    (subst (λ n. before (x.common ++ x.later ∷ x.rest_of_a) n ≡ true) (sym x.b_is)
    (later_before x.common x.later x.earlier x.rest_of_a x.rest_of_b x.larger))

-- the computed order is the one in words
pub before_tells : (a b : Name) (r : Bool) → r ≡ before a b → (r ≡ true) ↔ IsBefore a b
before_tells a b r e = (λ h. in_words a b (sym e ∙ h), λ x. e ∙ computed a b x)

-- nothing is before the root
pub none_before_root : (a b : Name) → b ≡ [] → before a b ≡ false
none_before_root a (k ∷ b) e = absurd (cc)
none_before_root [] [] e = refl
none_before_root (j ∷ a) [] e = refl

-- nothing is before itself
pub before-self : (a : Name) → before a a ≡ false
before-self [] = refl
before-self (x ∷ a) = let rest = before-self a in grind (arith, nat_tests, rest)

by_numbers : (j k l : ℕ) (x y z : Bool) → (x ≡ true → y ≡ true → z ≡ true)
    → (nat_lt k j || (nat_eq j k && x)) ≡ true → (nat_lt l k || (nat_eq k l && y)) ≡ true
    → (nat_lt l j || (nat_eq j l && z)) ≡ true
by_numbers j k l x y z rec p q = grind (arith, nat_tests, rec, p, q)

-- what is before something is before all that this is before
pub before-trans : (a b c : Name) → before a b ≡ true → before b c ≡ true → before a c ≡ true
before-trans [] [] c p q = absurd (cc)
before-trans [] (k ∷ b) [] p q = absurd (cc)
before-trans [] (k ∷ b) (l ∷ c) p q = refl
before-trans (j ∷ a) [] c p q = absurd (cc)
before-trans (j ∷ a) (k ∷ b) [] p q = absurd (cc)
before-trans (j ∷ a) (k ∷ b) (l ∷ c) p q =
    by_numbers j k l (before a b) (before b c) (before a c) (before-trans a b c) p q
