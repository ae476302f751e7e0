-- The index of each cell in a list.
use Rattle.tj_report.proofs.Prelude.{IsIn, List, [], ap, arith, get_or, inl, inr, length, refl, replicate, some_is, subst}
use Rattle.tj_report.proofs.Prelude.{suc, sym, zero, ℕ, ◌+◌, ◌<◌, ◌∙◌, ◌∷◌, ◌≡◌, ◌≤◌}
use Rattle.std.proofs.Common.{Option, Some, None}
use Rattle.std.specs.Prelude.{slice_get, slice_set}
use Rattle.std.proofs.lemmas.List.{get_or-set_same, get_or-set_other}
use native.Mathlib.Decide.{ℕ_discrete}
use mathlib.Core.Logic.{dite}
use Rattle.tj_mean.proofs.Lists.Elements.{get_less}
use Rattle.tj_report.specs.Inner.AwaitedCells.{AreRanks}

-- for each cell before index n the list has its index, and for no other cell
pub record AreRanksTo (n : ℕ) (order : List ℕ) (ranks : List (Option ℕ)) : Type 0 where
  pub sound : (c p : ℕ) → get_or ranks c None ≡ Some p → slice_get order p ≡ Some c
  pub all : (c p : ℕ) → p < n → slice_get order p ≡ Some c → (k : ℕ) × (get_or ranks c None ≡ Some k)

none_ranked : (n c : ℕ) → get_or (replicate {A = Option ℕ} n None) c None ≡ None
none_ranked zero c = refl
none_ranked (suc n) zero = refl
none_ranked (suc n) (suc c) = none_ranked n c

pub ranks_none : (n : ℕ) (order : List ℕ) (ranks : List (Option ℕ)) → ranks ≡ replicate n None
    → AreRanksTo 0 order ranks
ranks_none n order ranks e = record {
  sound = λ c p r. let z : None ≡ Some p = sym (ap (λ l. get_or l c None) e ∙ none_ranked n c) ∙ r in absurd (cc);
  all = λ c p l g. absurd (omega arith);
}

pub ranks_more : (i c : ℕ) (order : List ℕ) (ranks more : List (Option ℕ)) → slice_get order i ≡ Some c
    → c < length ranks → more ≡ slice_set ranks c (Some i) → AreRanksTo i order ranks → AreRanksTo (i + 1) order more
ranks_more i c order ranks more at inside set a = record {
  sound = λ d p r. dite (ℕ_discrete d c)
      (λ q.
      let is : Some i ≡ Some p =
      sym (ap (λ l. get_or l d None) set ∙ ap (λ n. get_or (slice_set ranks c (Some i)) n None) q
      ∙ get_or-set_same ranks c (Some i) None inside) ∙ r in
      subst (λ n. slice_get order n ≡ Some d) (some_is i p is) (at ∙ ap Some (sym q)))
      (λ q. a.sound d p (sym (ap (λ l. get_or l d None) set ∙ get_or-set_other ranks c d (Some i) None q) ∙ r));
  all = λ d p l g. dite (ℕ_discrete d c)
      (λ q. (
        i,
        ap (λ l. get_or l d None) set ∙ ap (λ n. get_or (slice_set ranks c (Some i)) n None) q
            ∙ get_or-set_same ranks c (Some i) None inside,
      ))
      (λ q. dite (ℕ_discrete p i)
      (λ s. absurd (q (sym (some_is c d (sym at ∙ ap (slice_get order) (sym s) ∙ g)))))
      (λ s.
      let k = a.all d p (omega (arith, s)) g in
      (k.0, ap (λ l. get_or l d None) set ∙ get_or-set_other ranks c d (Some i) None q ∙ k.1)));
}

pub ranks_all : (n : ℕ) (order : List ℕ) (ranks : List (Option ℕ)) → length order ≤ n → AreRanksTo n order ranks
    → AreRanks order ranks
ranks_all n order ranks l a = record {
  sound = a.sound;
  all = λ c p g. let m = get_less order p c g in a.all c p (omega arith) g;
}
