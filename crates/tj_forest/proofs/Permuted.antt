-- Lists put together in another order have the same elements.
use Rattle.std.proofs.Common.{◌≡◌, ℕ, zero, suc, ◌+◌, ◌<◌, ◌≤◌, Bool, true, false, cond, nat_eq, List, [], ◌∷◌, ◌++◌}
use Rattle.std.proofs.Common.{map, refl, sym, ap, subst, ◌∙◌, arith, eq-eqb, eqb-true, true≢false}
use native.Mathlib.Decide.{dec_le}
use mathlib.Core.Logic.{dite}
use Rattle.std.specs.List.{filter, flat_map, range_with_len}
use Rattle.std.specs.List.Sorted.{IsPermutation}
use Rattle.std.proofs.lemmas.List.{append_assoc}
use Rattle.std.proofs.lemmas.List.Sorted.{IsPermutation-append, IsPermutation-append_comm, IsPermutation-cons}
use Rattle.std.proofs.lemmas.List.Sorted.{IsPermutation-middle, IsPermutation-refl, IsPermutation-sym}
use Rattle.std.proofs.lemmas.List.Sorted.{IsPermutation-trans}

-- a function over two lists one after the other
pub map_append : {A C : Type 0} (h : A → C) (xs ys : List A) → map h (xs ++ ys) ≡ map h xs ++ map h ys
map_append h [] ys = refl
map_append h (x ∷ xs) ys = ap (λ z. h x ∷ z) (map_append h xs ys)

module _ {A : Type 0} where
  -- equal lists
  pub permuted_same : (xs ys : List A) → xs ≡ ys → IsPermutation xs ys
  permuted_same xs ys is = subst (IsPermutation xs) is (IsPermutation-refl xs)

  -- the second and the third part change places
  pub permuted_ends : (a b c : List A) → IsPermutation ((a ++ b) ++ c) ((a ++ c) ++ b)
  permuted_ends a b c = IsPermutation-trans ((a ++ b) ++ c) (a ++ (c ++ b)) ((a ++ c) ++ b)
      (IsPermutation-trans ((a ++ b) ++ c) (a ++ (b ++ c)) (a ++ (c ++ b))
      (permuted_same ((a ++ b) ++ c) (a ++ (b ++ c)) (append_assoc a b c))
      (IsPermutation-append a a (b ++ c) (c ++ b) (IsPermutation-refl a) (IsPermutation-append_comm b c)))
      (permuted_same (a ++ (c ++ b)) ((a ++ c) ++ b) (sym (append_assoc a c b)))

  -- an element behind the first part is one behind the second
  pub permuted_last : (xs rest : List A) (f : A) → IsPermutation ((xs ++ f ∷ []) ++ rest) ((xs ++ rest) ++ f ∷ [])
  permuted_last xs rest f = permuted_ends xs (f ∷ []) rest

  -- the two parts in the middle of four change places
  pub permuted_middles : (a b c d : List A) → IsPermutation ((a ++ b) ++ (c ++ d)) ((a ++ c) ++ (b ++ d))
  permuted_middles a b c d =
      IsPermutation-trans ((a ++ b) ++ (c ++ d)) (((a ++ b) ++ c) ++ d) ((a ++ c) ++ (b ++ d))
      (permuted_same ((a ++ b) ++ (c ++ d)) (((a ++ b) ++ c) ++ d) (sym (append_assoc (a ++ b) c d)))
      (IsPermutation-trans (((a ++ b) ++ c) ++ d) (((a ++ c) ++ b) ++ d) ((a ++ c) ++ (b ++ d))
      (IsPermutation-append ((a ++ b) ++ c) ((a ++ c) ++ b) d d (permuted_ends a b c) (IsPermutation-refl d))
      (permuted_same (((a ++ c) ++ b) ++ d) ((a ++ c) ++ (b ++ d)) (append_assoc (a ++ c) b d)))

  module _ {L : Type 0} where
    -- two parts of each element, one after the other
    pub permuted_parts : (f g : L → List A) (ls : List L)
        → IsPermutation (flat_map (λ l. f l ++ g l) ls) (flat_map f ls ++ flat_map g ls)
    permuted_parts f g [] = IsPermutation-refl []
    permuted_parts f g (l ∷ ls) =
        let a = f l in let b = g l in let c = flat_map f ls in let d = flat_map g ls in
        IsPermutation-trans ((a ++ b) ++ flat_map (λ l. f l ++ g l) ls) ((a ++ b) ++ (c ++ d)) ((a ++ c) ++ (b ++ d))
        (IsPermutation-append (a ++ b) (a ++ b) (flat_map (λ l. f l ++ g l) ls) (c ++ d) (IsPermutation-refl (a ++ b))
        (permuted_parts f g ls))
        (permuted_middles a b c d)

    -- lists of each element with the same elements
    pub permuted_each : (f g : L → List A) → ((l : L) → IsPermutation (f l) (g l)) → (ls : List L)
        → IsPermutation (flat_map f ls) (flat_map g ls)
    permuted_each f g h [] = IsPermutation-refl []
    permuted_each f g h (l ∷ ls) =
        IsPermutation-append (f l) (g l) (flat_map f ls) (flat_map g ls) (h l) (permuted_each f g h ls)

    -- a list of each element through a function
    pub map_parts : {C : Type 0} (h : A → C) (f : L → List A) (ls : List L)
        → map h (flat_map f ls) ≡ flat_map (λ l. map h (f l)) ls
    map_parts h f [] = refl
    map_parts h f (l ∷ ls) = map_append h (f l) (flat_map f ls) ∙ ap (λ z. map h (f l) ++ z) (map_parts h f ls)

-- numbers that aren't the same
not_same : (r a : ℕ) → r < a → nat_eq r a ≡ false
not_same r a less = by (nat_eq r a) refl where
  by : (b : Bool) → nat_eq r a ≡ b → nat_eq r a ≡ false
  by true is = absurd (let e = eqb-true r a is in omega arith)
  by false is = is

pub above : (r a : ℕ) → nat_eq r a ≡ false → a ≤ r → a + 1 ≤ r
above r a other least = dite (dec_le (a + 1) r) (λ more. more) (λ not.
    let same : r ≡ a = omega (arith, not) in
    absurd (true≢false (sym (eq-eqb r a same) ∙ other)))

-- elements with ranks, by their ranks
module _ {A : Type 0} where
  -- those of one rank
  abbrev pub of_rank : ℕ → List (ℕ × A) → List A
  of_rank i xs = map (λ x. x.1) (filter (λ x. nat_eq x.0 i) xs)

  -- the ranks from a on, where there is none
  pub no_rank : (xs : List (ℕ × A)) (r : ℕ) (x : A) (a n : ℕ) → r < a
      → flat_map (λ i. of_rank i ((r, x) ∷ xs)) (range_with_len a n)
      ≡ flat_map (λ i. of_rank i xs) (range_with_len a n)
  no_rank xs r x a zero less = refl
  no_rank xs r x a (suc n) less =
      ap (λ b. map (λ (y : ℕ × A). y.1) (cond b ((r, x) ∷ filter (λ y. nat_eq y.0 a) xs)
      (filter (λ y. nat_eq y.0 a) xs))
      ++ flat_map (λ i. of_rank i ((r, x) ∷ xs)) (range_with_len (a + 1) n)) (not_same r a less)
      ∙ ap (λ z. of_rank a xs ++ z) (no_rank xs r x (a + 1) n (omega arith))

  -- one rank more
  one_rank : (xs : List (ℕ × A)) (r : ℕ) (x : A) (a n : ℕ) → a ≤ r → r < a + n
      → IsPermutation (x ∷ flat_map (λ i. of_rank i xs) (range_with_len a n))
      (flat_map (λ i. of_rank i ((r, x) ∷ xs)) (range_with_len a n))
  one_rank xs r x a zero least most = absurd (omega arith)
  one_rank xs r x a (suc n) least most = by (nat_eq r a) refl (one_rank xs r x (a + 1) n) where
    here : List A
    here = of_rank a xs

    later : List A
    later = flat_map (λ i. of_rank i xs) (range_with_len (a + 1) n)

    later_too : List A
    later_too = flat_map (λ i. of_rank i ((r, x) ∷ xs)) (range_with_len (a + 1) n)

    by : (b : Bool) → nat_eq r a ≡ b
        → (a + 1 ≤ r → r < (a + 1) + n → IsPermutation (x ∷ later) later_too)
        → IsPermutation (x ∷ (here ++ later))
        (map (λ (y : ℕ × A). y.1) (cond b ((r, x) ∷ filter (λ y. nat_eq y.0 a) xs) (filter (λ y. nat_eq y.0 a) xs))
        ++ later_too)
    by true is next = permuted_same (x ∷ (here ++ later)) (x ∷ (here ++ later_too))
        (ap (λ z. x ∷ (here ++ z)) (sym (no_rank xs r x (a + 1) n (let e = eqb-true r a is in omega arith))))
    by false is next = IsPermutation-trans (x ∷ (here ++ later)) (here ++ x ∷ later) (here ++ later_too)
        (IsPermutation-sym (here ++ x ∷ later) (x ∷ (here ++ later)) (IsPermutation-middle here x later))
        (IsPermutation-append here here (x ∷ later) later_too (IsPermutation-refl here)
        (next (above r a is least) (omega arith)))

  -- each rank is below n
  abbrev pub AreBelow : ℕ → List (ℕ × A) → Type 0
  AreBelow n [] = Unit {0}
  AreBelow n (x ∷ xs) = (x.0 < n) × AreBelow n xs

  -- elements by their ranks are these elements
  pub permuted_ranks : (n : ℕ) (xs : List (ℕ × A)) → AreBelow n xs
      → IsPermutation (map (λ x. x.1) xs) (flat_map (λ i. of_rank i xs) (range_with_len 0 n))
  permuted_ranks n [] below = permuted_same [] (flat_map (λ i. of_rank i []) (range_with_len 0 n)) (none 0 n) where
    none : (a n : ℕ) → [] ≡ flat_map (λ i. of_rank i []) (range_with_len a n)
    none a zero = refl
    none a (suc n) = none (a + 1) n
  permuted_ranks n ((r, x) ∷ xs) below =
      IsPermutation-trans (x ∷ map (λ (y : ℕ × A). y.1) xs)
      (x ∷ flat_map (λ i. of_rank i xs) (range_with_len 0 n))
      (flat_map (λ i. of_rank i ((r, x) ∷ xs)) (range_with_len 0 n))
      (IsPermutation-cons x (map (λ (y : ℕ × A). y.1) xs) (flat_map (λ i. of_rank i xs) (range_with_len 0 n))
      (permuted_ranks n xs below.1))
      (one_rank xs r x 0 n (omega arith) (let b = below.0 in omega arith))
