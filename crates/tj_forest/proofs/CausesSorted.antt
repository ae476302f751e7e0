-- Causes with ranks, sorted by their ranks, are in the order in which they are told.
use Rattle.std.proofs.Common.{◌≡◌, ℕ, zero, suc, ◌<◌, Bool, true, false, cond, nat_eq, List, [], ◌∷◌, length, map}
use Rattle.std.proofs.Common.{refl, sym, ap, subst, ◌∙◌, inl, inr}
use Rattle.std.specs.List.{filter, flat_map, range_with_len}
use Rattle.std.specs.List.Sorted.{IsNonDecreasingBy, IsPermutation, IsStableByKey}
use Rattle.std.specs.Ordering.{nat_cmp}
use Rattle.tj_body.specs.Points.{IsIn}
use Rattle.tj_body.proofs.Lists.{in_map, to_map}
use Rattle.tj_mean.specs.declared.outcome.Link.{Link}
use Rattle.tj_mean.proofs.Lists.NameOrder.{in_permuted}
use Rattle.tj_syntax.specs.PlacesOf.{PlacesOfTask}
use Rattle.tj_trace.specs.declared.line.TraceLine.{TraceLine}
use Rattle.tj_forest.proofs.Forests.{all_below}
use Rattle.tj_forest.proofs.Permuted.{AreBelow, map_parts, of_rank}
use Rattle.tj_forest.proofs.Ranked.{sorted_ranks}
use Rattle.tj_findings.specs.Forests.{Tree, bare, causes, in_ranks, ranked_causes, view_tree}
use Rattle.tj_forest.specs.Inner.Ranks.{bare_ranks, ranks_of}
use Rattle.tj_findings.specs.declared.finding.Finding.{Finding}
use Rattle.tj_findings.specs.declared.forest.Tree as code

-- those of one rank, with nothing below them
of_bare : (i : ℕ) (fs : List (ℕ × Finding)) → of_rank i (bare_ranks fs) ≡ map bare (of_rank i fs)
of_bare i [] = refl
of_bare i (f ∷ fs) = by (nat_eq f.0 i) (of_bare i fs) where
  by : (b : Bool) → of_rank i (bare_ranks fs) ≡ map bare (of_rank i fs)
      → map (λ (x : ℕ × Tree). x.1)
      (cond b ((f.0, bare f.1) ∷ filter (λ x. nat_eq x.0 i) (bare_ranks fs))
      (filter (λ x. nat_eq x.0 i) (bare_ranks fs)))
      ≡ map bare (map (λ (x : ℕ × Finding). x.1)
      (cond b (f ∷ filter (λ x. nat_eq x.0 i) fs) (filter (λ x. nat_eq x.0 i) fs)))
  by true rest = ap (λ l. bare f.1 ∷ l) rest
  by false rest = rest

-- all of them by their ranks
bared : (n : ℕ) (fs : List (ℕ × Finding))
    → flat_map (λ i. of_rank i (bare_ranks fs)) (range_with_len 0 n) ≡ map bare (in_ranks n fs)
bared n fs =
    ap (λ (g : ℕ → List Tree). flat_map g (range_with_len 0 n)) (λ j i. of_bare i fs j)
    ∙ sym (map_parts bare (λ i. of_rank i fs) (range_with_len 0 n))

-- ranks below n
below_bare : (n : ℕ) (fs : List (ℕ × Finding)) → AreBelow n fs → AreBelow n (bare_ranks fs)
below_bare n [] below = tt
below_bare n (f ∷ fs) below = (below.0, below_bare n fs below.1)

pub below_in : {A : Type 0} (n : ℕ) (xs : List (ℕ × A)) → AreBelow n xs → (x : ℕ × A) → IsIn x xs → x.0 < n
below_in n [] below x i = absurd i
below_in n (y ∷ ys) below x (inl e) = subst (λ (z : ℕ × _). z.0 < n) (sym e) below.0
below_in n (y ∷ ys) below x (inr i) = below_in n ys below.1 x i

in_below : {A : Type 0} (n : ℕ) (xs : List (ℕ × A)) → ((x : ℕ × A) → IsIn x xs → x.0 < n) → AreBelow n xs
in_below n [] all = tt
in_below n (x ∷ xs) all = (all x (inl refl), in_below n xs (λ y i. all y (inr i)))

-- the trees sorted by their ranks
pub causes_sorted : (places : List PlacesOfTask) (lines : List TraceLine) (cycles : List (List Link))
    (xs ys : List code.Tree) → ranks_of xs ≡ bare_ranks (ranked_causes places lines cycles) → IsPermutation xs ys
    → IsNonDecreasingBy (λ (t : code.Tree). t.rank) ys → IsStableByKey (λ (t : code.Tree). t.rank) nat_cmp xs ys
    → map view_tree ys ≡ map bare (causes places lines cycles)
causes_sorted places lines cycles xs ys are same up stable =
    let n = suc (length cycles) in
    let fs = ranked_causes places lines cycles in
    sorted_ranks (λ (t : code.Tree). t.rank) view_tree n xs ys up stable below
    ∙ ap (λ (l : List (ℕ × Tree)). flat_map (λ i. of_rank i l) (range_with_len 0 n)) are
    ∙ bared n fs
  where
    here : AreBelow (suc (length cycles)) (ranks_of xs)
    here = subst (AreBelow (suc (length cycles))) (sym are)
        (below_bare (suc (length cycles)) (ranked_causes places lines cycles) (all_below places lines cycles))

    below : AreBelow (suc (length cycles)) (ranks_of ys)
    below = in_below (suc (length cycles)) (ranks_of ys) (λ x i.
        let t = in_map (λ (t : code.Tree). (t.rank, view_tree t)) x ys i in
        subst (λ (z : ℕ × Tree). z.0 < suc (length cycles)) (sym t.2)
        (below_in (suc (length cycles)) (ranks_of xs) here (t.0.rank, view_tree t.0)
        (to_map (λ (t : code.Tree). (t.rank, view_tree t)) t.0 xs (in_permuted xs ys same t.0 t.1))))
