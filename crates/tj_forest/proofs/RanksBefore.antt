-- What stands before another element in a list that is put together.
use Rattle.std.proofs.Common.{◌≡◌, ℕ, zero, suc, ◌+◌, ◌<◌, ◌≤◌, Bool, true, false, cond, nat_eq, List, [], ◌∷◌, ◌++◌}
use Rattle.std.proofs.Common.{map, refl, sym, ap, ◌∙◌, ◌⊎◌, inl, inr, arith, eqb-true}
use Rattle.std.specs.List.{filter, flat_map, range_with_len}
use Rattle.tj_body.specs.Points.{IsIn}
use Rattle.tj_body.proofs.Lists.{from_flat_map, in_either}
use Rattle.tj_forest.proofs.Permuted.{of_rank}
use Rattle.tj_forest.specs.CauseOrder.{StandsBefore}

-- a number of a range is none below its first
from_first : (i a n : ℕ) → IsIn i (range_with_len a n) → a ≤ i
from_first i a zero j = absurd j
from_first i a (suc n) (inl e) = omega (arith, e)
from_first i a (suc n) (inr j) = let more = from_first i (a + 1) n j in omega arith

module _ {A : Type 0} where
  -- both are elements
  pub first_in : (x y : A) (xs : List A) → StandsBefore x y xs → IsIn x xs
  first_in x y [] p = absurd p
  first_in x y (z ∷ zs) (inl p) = inl p.0
  first_in x y (z ∷ zs) (inr p) = inr (first_in x y zs p)

  pub second_in : (x y : A) (xs : List A) → StandsBefore x y xs → IsIn y xs
  second_in x y [] p = absurd p
  second_in x y (z ∷ zs) (inl p) = inr p.1
  second_in x y (z ∷ zs) (inr p) = inr (second_in x y zs p)

  -- of two lists one after the other
  pub before_either : (x y : A) (xs ys : List A) → StandsBefore x y (xs ++ ys)
      → StandsBefore x y xs ⊎ ((IsIn x xs × IsIn y ys) ⊎ StandsBefore x y ys)
  before_either x y [] ys p = inr (inr p)
  before_either x y (z ∷ zs) ys (inl p) = by (in_either y zs ys p.1) where
    by : IsIn y zs ⊎ IsIn y ys
        → StandsBefore x y (z ∷ zs) ⊎ ((IsIn x (z ∷ zs) × IsIn y ys) ⊎ StandsBefore x y ys)
    by (inl i) = inl (inl (p.0, i))
    by (inr i) = inr (inl (inl p.0, i))
  before_either x y (z ∷ zs) ys (inr p) = by (before_either x y zs ys p) where
    by : StandsBefore x y zs ⊎ ((IsIn x zs × IsIn y ys) ⊎ StandsBefore x y ys)
        → StandsBefore x y (z ∷ zs) ⊎ ((IsIn x (z ∷ zs) × IsIn y ys) ⊎ StandsBefore x y ys)
    by (inl q) = inl (inr q)
    by (inr (inl q)) = inr (inl (inr q.0, q.1))
    by (inr (inr q)) = inr (inr q)

  -- what has this rank is there with it
  rank_in : (i : ℕ) (fs : List (ℕ × A)) (x : A) → IsIn x (of_rank i fs) → IsIn (i, x) fs
  rank_in i [] x j = absurd j
  rank_in i ((r, z) ∷ fs) x j = by (nat_eq r i) refl (rank_in i fs x) j where
    by : (b : Bool) → nat_eq r i ≡ b → (IsIn x (of_rank i fs) → IsIn (i, x) fs)
        → IsIn x (map (λ (y : ℕ × A). y.1) (cond b ((r, z) ∷ filter (λ y. nat_eq y.0 i) fs)
        (filter (λ y. nat_eq y.0 i) fs)))
        → IsIn (i, x) ((r, z) ∷ fs)
    by true is rest (inl e) = let same = eqb-true r i is in inl (ap (λ k. (k, x)) (sym same) ∙ ap (λ k. (r, k)) e)
    by true is rest (inr k) = inr (rest k)
    by false is rest k = inr (rest k)

  rank_before : (i : ℕ) (fs : List (ℕ × A)) (x y : A) → StandsBefore x y (of_rank i fs)
      → StandsBefore (i, x) (i, y) fs
  rank_before i [] x y p = absurd p
  rank_before i ((r, z) ∷ fs) x y p = by (nat_eq r i) refl (rank_before i fs x y) p where
    by : (b : Bool) → nat_eq r i ≡ b → (StandsBefore x y (of_rank i fs) → StandsBefore (i, x) (i, y) fs)
        → StandsBefore x y (map (λ (y : ℕ × A). y.1) (cond b ((r, z) ∷ filter (λ y. nat_eq y.0 i) fs)
        (filter (λ y. nat_eq y.0 i) fs)))
        → StandsBefore (i, x) (i, y) ((r, z) ∷ fs)
    by true is rest (inl q) =
        let same = eqb-true r i is in
        inl (ap (λ k. (k, x)) (sym same) ∙ ap (λ k. (r, k)) q.0, rank_in i fs y q.1)
    by true is rest (inr q) = inr (rest q)
    by false is rest q = inr (rest q)

  -- by ranks the first has no greater rank; where it has the same one, it stands before the second in the list
  pub data AreRanked (fs : List (ℕ × A)) (x y : A) : Type 0 where
    lower : (r s : ℕ) → r < s → IsIn (r, x) fs → IsIn (s, y) fs → AreRanked fs x y
    alike : (r : ℕ) → StandsBefore (r, x) (r, y) fs → AreRanked fs x y

  ranked_from : (fs : List (ℕ × A)) (x y : A) (a n : ℕ)
      → StandsBefore x y (flat_map (λ i. of_rank i fs) (range_with_len a n)) → AreRanked fs x y
  ranked_from fs x y a zero p = absurd p
  ranked_from fs x y a (suc n) p =
      by (ranked_from fs x y (a + 1) n) (before_either x y (of_rank a fs) later p) where
        later : List A
        later = flat_map (λ i. of_rank i fs) (range_with_len (a + 1) n)

        by : (StandsBefore x y later → AreRanked fs x y)
            → StandsBefore x y (of_rank a fs) ⊎ ((IsIn x (of_rank a fs) × IsIn y later) ⊎ StandsBefore x y later)
            → AreRanked fs x y
        by rest (inl q) = alike a (rank_before a fs x y q)
        by rest (inr (inl q)) =
            let i = from_flat_map (λ i. of_rank i fs) y (range_with_len (a + 1) n) q.1 in
            let more = from_first i.0 (a + 1) n i.1 in
            lower a i.0 (omega arith) (rank_in a fs x q.0) (rank_in i.0 fs y i.2)
        by rest (inr (inr q)) = rest q

  pub ranked_before : (fs : List (ℕ × A)) (x y : A) (n : ℕ)
      → StandsBefore x y (flat_map (λ i. of_rank i fs) (range_with_len 0 n)) → AreRanked fs x y
  ranked_before fs x y n p = ranked_from fs x y 0 n p
