-- A list whose ranks rise is in the order of its ranks; so is what a stable sort by ranks gives.
use Rattle.std.proofs.Common.{◌≡◌, ℕ, zero, suc, ◌+◌, ◌<◌, ◌≤◌, Bool, true, false, cond, nat_eq, List, [], ◌∷◌, ◌++◌}
use Rattle.std.proofs.Common.{map, refl, sym, ap, ◌∙◌, arith, eq-eqb, eqb-true}
use Rattle.std.proofs.Common.{length, not, ◌&&◌, ◌⊎◌, inl, inr, subst}
use Rattle.std.specs.List.{filter, flat_map, range_with_len, slice_index_or}
use Rattle.std.specs.List.Sorted.{IsNonDecreasingBy, IsStableByKey, ties}
use Rattle.std.specs.Ordering.{is_lt, nat_cmp}
use Rattle.std.specs.Cmp.{nat_cmp_is}
use Rattle.std.proofs.Common.{Less, Equal, Greater, Ordering}
use native.Mathlib.Decide.{dec_lt}
use mathlib.Core.Logic.{dite}
use Rattle.tj_forest.proofs.Permuted.{AreBelow, above, no_rank, of_rank}

module _ {A : Type 0} where
  -- no rank is below r
  abbrev pub AreAtLeast : ℕ → List (ℕ × A) → Type 0
  AreAtLeast r [] = Unit {0}
  AreAtLeast r (x ∷ xs) = (r ≤ x.0) × AreAtLeast r xs

  -- no rank is below one in front of it
  abbrev pub Rise : List (ℕ × A) → Type 0
  Rise [] = Unit {0}
  Rise (x ∷ xs) = AreAtLeast x.0 xs × Rise xs

  -- there is none of a lower rank
  none_lower : (r a : ℕ) (zs : List (ℕ × A)) → a < r → AreAtLeast r zs → of_rank a zs ≡ []
  none_lower r a [] less least = refl
  none_lower r a ((k, z) ∷ zs) less least = by (nat_eq k a) refl (none_lower r a zs less least.1) where
    by : (b : Bool) → nat_eq k a ≡ b → of_rank a zs ≡ []
        → map (λ (y : ℕ × A). y.1) (cond b ((k, z) ∷ filter (λ y. nat_eq y.0 a) zs) (filter (λ y. nat_eq y.0 a) zs))
        ≡ []
    by true is none = absurd (let e = eqb-true k a is in let h = least.0 in omega arith)
    by false is none = none

  -- the least one stands first
  least_first : (zs : List (ℕ × A)) (r : ℕ) (x : A) (a n : ℕ) → a ≤ r → r < a + n → AreAtLeast r zs
      → flat_map (λ i. of_rank i ((r, x) ∷ zs)) (range_with_len a n)
      ≡ x ∷ flat_map (λ i. of_rank i zs) (range_with_len a n)
  least_first zs r x a zero low high least = absurd (omega arith)
  least_first zs r x a (suc n) low high least =
      by (nat_eq r a) refl (λ more. least_first zs r x (a + 1) n more (omega arith) least) where
        later : List A
        later = flat_map (λ i. of_rank i zs) (range_with_len (a + 1) n)

        later_too : List A
        later_too = flat_map (λ i. of_rank i ((r, x) ∷ zs)) (range_with_len (a + 1) n)

        by : (b : Bool) → nat_eq r a ≡ b → (a + 1 ≤ r → later_too ≡ x ∷ later)
            → map (λ (y : ℕ × A). y.1) (cond b ((r, x) ∷ filter (λ y. nat_eq y.0 a) zs) (filter (λ y. nat_eq y.0 a) zs))
            ++ later_too ≡ x ∷ (of_rank a zs ++ later)
        by true is next = ap (λ z. x ∷ (of_rank a zs ++ z))
            (no_rank zs r x (a + 1) n (let e = eqb-true r a is in omega arith))
        by false is next =
            let more = above r a is low in
            let none = none_lower r a zs (omega arith) least in
            ap (λ z. z ++ later_too) none
            ∙ next more
            ∙ ap (λ z. x ∷ (z ++ later)) (sym none)

  -- all of them
  pub in_order : (n : ℕ) (ys : List (ℕ × A)) → AreBelow n ys → Rise ys
      → flat_map (λ i. of_rank i ys) (range_with_len 0 n) ≡ map (λ (y : ℕ × A). y.1) ys
  in_order n [] below rise = none 0 n where
    none : (a n : ℕ) → ◌≡◌ {A = List A} (flat_map (λ i. of_rank {A = A} i []) (range_with_len a n)) []
    none a zero = refl
    none a (suc n) = none (a + 1) n
  in_order n ((r, x) ∷ ys) below rise =
      least_first ys r x 0 n (omega arith) (let b = below.0 in omega arith) rise.0
      ∙ ap (λ z. x ∷ z) (in_order n ys below.1 rise.1)

-- elements tie that have one rank
tie_is : (a b : ℕ) → (not (is_lt (nat_cmp a b)) && not (is_lt (nat_cmp b a))) ≡ nat_eq b a
tie_is a b = dite (dec_lt a b)
    (λ less. both Less Greater (sym (nat_cmp_is a b Less less)) (sym (nat_cmp_is b a Greater less))
    ∙ sym (other (λ e. omega arith)))
    (λ low. dite (dec_lt b a)
    (λ less. both Greater Less (sym (nat_cmp_is a b Greater less)) (sym (nat_cmp_is b a Less less))
    ∙ sym (other (λ e. omega arith)))
    (λ high. let same : a ≡ b = omega (arith, low, high) in
    both Equal Equal (sym (nat_cmp_is a b Equal same)) (sym (nat_cmp_is b a Equal (sym same)))
    ∙ sym (eq-eqb b a (sym same))))
  where
    both : (o p : Ordering) → nat_cmp a b ≡ o → nat_cmp b a ≡ p
        → (not (is_lt (nat_cmp a b)) && not (is_lt (nat_cmp b a))) ≡ (not (is_lt o) && not (is_lt p))
    both o p e f = ap (λ z. not (is_lt z) && not (is_lt (nat_cmp b a))) e ∙ ap (λ z. not (is_lt o) && not (is_lt z)) f

    other : (b ≡ a → ⊥) → nat_eq b a ≡ false
    other h = by (nat_eq b a) refl where
      by : (t : Bool) → nat_eq b a ≡ t → nat_eq b a ≡ false
      by true is = absurd (h (eqb-true b a is))
      by false is = is

-- elements with a rank each, and what is wanted of them
module _ {A C : Type 0} (rank : A → ℕ) (f : A → C) where
  abbrev pub with_rank : A → ℕ × C
  with_rank x = (rank x, f x)

  -- the rank of an element that isn't below another's
  rise_of : (xs : List A) → IsNonDecreasingBy rank xs → Rise (map with_rank xs)
  rise_of [] h = tt
  rise_of (x ∷ xs) h = (
    least xs (λ j d less. h 0 (suc j) d (omega arith) (omega arith)),
    rise_of xs (λ i j d low less. h (suc i) (suc j) d (omega arith) (omega arith)),
  )
    where
      least : (ys : List A) → ((j : ℕ) (d : A) → j < length ys → rank x ≤ rank (slice_index_or ys j d))
          → AreAtLeast (rank x) (map with_rank ys)
      least [] h = tt
      least (y ∷ ys) h = (h 0 y (omega arith), least ys (λ j d less. h (suc j) d (omega arith)))

  -- those of one rank
  of_one : (i : ℕ) (zs : List A) → of_rank i (map with_rank zs) ≡ map f (filter (λ y. nat_eq (rank y) i) zs)
  of_one i [] = refl
  of_one i (z ∷ zs) = by (nat_eq (rank z) i) (of_one i zs) where
    by : (b : Bool) → of_rank i (map with_rank zs) ≡ map f (filter (λ y. nat_eq (rank y) i) zs)
        → map (λ (y : ℕ × C). y.1)
        (cond b (with_rank z ∷ filter (λ y. nat_eq y.0 i) (map with_rank zs))
        (filter (λ y. nat_eq y.0 i) (map with_rank zs)))
        ≡ map f (cond b (z ∷ filter (λ y. nat_eq (rank y) i) zs) (filter (λ y. nat_eq (rank y) i) zs))
    by true rest = ap (λ l. f z ∷ l) rest
    by false rest = rest

  -- an element of this rank, or there is none
  one_of_rank : (i : ℕ) (zs : List A) → ((x : A) × (rank x ≡ i)) ⊎ (filter (λ y. nat_eq (rank y) i) zs ≡ [])
  one_of_rank i [] = inr refl
  one_of_rank i (z ∷ zs) = by (nat_eq (rank z) i) refl (one_of_rank i zs) where
    by : (b : Bool) → nat_eq (rank z) i ≡ b
        → ((x : A) × (rank x ≡ i)) ⊎ (filter (λ y. nat_eq (rank y) i) zs ≡ [])
        → ((x : A) × (rank x ≡ i))
        ⊎ (cond b (z ∷ filter (λ y. nat_eq (rank y) i) zs) (filter (λ y. nat_eq (rank y) i) zs) ≡ [])
    by true is rest = inl (z, eqb-true (rank z) i is)
    by false is (inl x) = inl x
    by false is (inr none) = inr none

  -- a stable sort leaves those of each rank as they stood
  same_ranks : (xs ys : List A) → IsStableByKey rank nat_cmp xs ys → (i : ℕ)
      → filter (λ y. nat_eq (rank y) i) ys ≡ filter (λ y. nat_eq (rank y) i) xs
  same_ranks xs ys stable i = by (one_of_rank i xs) (one_of_rank i ys) where
    at : (x : A) → rank x ≡ i → filter (λ y. nat_eq (rank y) i) ys ≡ filter (λ y. nat_eq (rank y) i) xs
    at x is = subst (λ k. filter (λ y. nat_eq (rank y) k) ys ≡ filter (λ y. nat_eq (rank y) k) xs) is
        (subst (λ (test : A → Bool). filter test ys ≡ filter test xs) (λ j y. tie_is (rank x) (rank y) j) (stable x))

    by : ((x : A) × (rank x ≡ i)) ⊎ (filter (λ y. nat_eq (rank y) i) xs ≡ [])
        → ((x : A) × (rank x ≡ i)) ⊎ (filter (λ y. nat_eq (rank y) i) ys ≡ [])
        → filter (λ y. nat_eq (rank y) i) ys ≡ filter (λ y. nat_eq (rank y) i) xs
    by (inl x) other = at x.0 x.1
    by (inr none) (inl y) = at y.0 y.1
    by (inr none) (inr also) = also ∙ sym none

  -- what a stable sort by ranks gives is in the order of the ranks
  pub sorted_ranks : (n : ℕ) (xs ys : List A) → IsNonDecreasingBy rank ys → IsStableByKey rank nat_cmp xs ys
      → AreBelow n (map with_rank ys)
      → map f ys ≡ flat_map (λ i. of_rank i (map with_rank xs)) (range_with_len 0 n)
  sorted_ranks n xs ys up stable below =
      firsts ys
      ∙ sym (in_order n (map with_rank ys) below (rise_of ys up))
      ∙ ap (λ (g : ℕ → List C). flat_map g (range_with_len 0 n)) (λ j i. each i j)
    where
      firsts : (zs : List A) → map f zs ≡ map (λ (y : ℕ × C). y.1) (map with_rank zs)
      firsts [] = refl
      firsts (z ∷ zs) = ap (λ l. f z ∷ l) (firsts zs)

      each : (i : ℕ) → of_rank i (map with_rank ys) ≡ of_rank i (map with_rank xs)
      each i = of_one i ys ∙ ap (map f) (same_ranks xs ys stable i) ∙ sym (of_one i xs)
