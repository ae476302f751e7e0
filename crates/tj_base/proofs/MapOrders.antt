-- The order of names as keys of maps: what a step or a leap of both says.
use Rattle.std.proofs.Common.{◌≡◌, ℕ, true, List, [], ◌∷◌, ◌++◌, length, reverse, nat_eq, refl, ap}
use Rattle.std.proofs.Common.{sym, ◌∙◌, Equal, arith}
use Rattle.std.proofs.lemmas.Bool.Decides.{nat_tests}
use Rattle.std.proofs.lemmas.List.{reverse-append}
use Rattle.std.specs.Cmp.Lexicographic.{slice_cmp, pointwise, same_text}
use Rattle.std.specs.Ordering.{nat_cmp, ordering_then}
use Rattle.tj_base.specs.ForkOrder.{Name}
use Rattle.tj_base.specs.Leaps.{IsLeap}
use Rattle.tj_base.specs.MapOrder.{map_order}

-- of names of one length the numbers decide
pub by_numbers : (a b : Name) → length a ≡ length b → map_order a b ≡ slice_cmp nat_cmp (reverse a) (reverse b)
by_numbers a b e = let t = nat_ties (length a) (length b) e in
    ap (λ o. ordering_then o (slice_cmp nat_cmp (reverse a) (reverse b))) t where
      nat_ties : (m n : ℕ) → m ≡ n → nat_cmp m n ≡ Equal
      nat_ties m n e = grind (arith, nat_tests, e)

-- the last numbers decide first
pub by_steps : (b d : Name) (j k : ℕ) → slice_cmp nat_cmp (reverse (b ++ j ∷ [])) (reverse (d ++ k ∷ []))
    ≡ ordering_then (nat_cmp j k) (slice_cmp nat_cmp (reverse b) (reverse d))
by_steps b d j k = λ i. slice_cmp nat_cmp (reverse-append b (j ∷ []) i) (reverse-append d (k ∷ []) i)

alike_first : (s b d : List ℕ) → slice_cmp nat_cmp (s ++ b) (s ++ d) ≡ slice_cmp nat_cmp b d
alike_first [] b d = refl
alike_first (x ∷ s) b d = let h = alike_first s b d in grind (arith, nat_tests, h)

-- rows of last numbers that are the same don't decide
pub by_leaps : (p q b d s t : List ℕ) → IsLeap p b s → IsLeap q d t → pointwise nat_eq s t ≡ true
    → slice_cmp nat_cmp (reverse p) (reverse q) ≡ slice_cmp nat_cmp (reverse b) (reverse d)
by_leaps p q b d s t l m e = (λ i. slice_cmp nat_cmp (reverse (l.whole_is i)) (reverse (m.whole_is i)))
    ∙ ((λ i. slice_cmp nat_cmp (reverse-append b s i) (reverse-append d t i))
    ∙ (ap (λ r. slice_cmp nat_cmp (reverse s ++ reverse b) (reverse r ++ reverse d)) (sym (same_text s t (sym e)))
    ∙ alike_first (reverse s) (reverse b) (reverse d)))
