-- Climbs along two names of one length, by a leap or a step of both: whether they are the same, and where they differ.
use Rattle.std.proofs.Common.{◌≡◌, ℕ, ◌&&◌, List, [], ◌∷◌, ◌++◌, length, Option, Some, None, cond, nat_eq}
use Rattle.std.proofs.Common.{refl, ap, ◌∙◌, arith, length-append}
use Rattle.std.proofs.lemmas.Bool.Decides.{nat_tests}
use Rattle.std.specs.Cmp.Lexicographic.{pointwise}
use Rattle.std.specs.Option.{option_or}
use Rattle.tj_base.specs.Differences.{first_difference}
use Rattle.tj_base.specs.ForkOrder.{IsAncestor}
use Rattle.tj_base.specs.Leaps.{IsLeap}
use Rattle.tj_base.proofs.Differences.{behind}

-- behind lists of one length: equal where both are
same_behind : (a b s t : List ℕ) → length a ≡ length b
    → pointwise nat_eq (a ++ s) (b ++ t) ≡ pointwise nat_eq a b && pointwise nat_eq s t
same_behind [] [] s t e = refl
same_behind [] (y ∷ b) s t e = absurd (cc)
same_behind (x ∷ a) [] s t e = absurd (cc)
same_behind (x ∷ a) (y ∷ b) s t e = let h = same_behind a b s t (cc) in grind (arith, nat_tests, h)

or_assoc : {A : Type 0} (x y z : Option A) → option_or (option_or x y) z ≡ option_or x (option_or y z)
or_assoc None y z = refl
or_assoc (Some v) y z = refl

-- the names before leaps of both are of one length
pub leaps_alike : (p q b d s t : List ℕ) → IsLeap p b s → IsLeap q d t → length p ≡ length q → length b ≡ length d
leaps_alike p q b d s t l m e = let i = ap length l.whole_is in let j = ap length m.whole_is in
    grind (arith, length-append, i, j, e, l.length_is, m.length_is)

-- the names before a step of both are of one length
pub steps_alike : (b d : List ℕ) (j k : ℕ) → length (b ++ j ∷ []) ≡ length (d ++ k ∷ []) → length b ≡ length d
steps_alike b d j k e = grind (arith, length-append, e)

pub same_by_leaps : (p q b d s t : List ℕ) → IsLeap p b s → IsLeap q d t → length p ≡ length q
    → pointwise nat_eq p q ≡ pointwise nat_eq b d && pointwise nat_eq s t
same_by_leaps p q b d s t l m e = (λ i. pointwise nat_eq (l.whole_is i) (m.whole_is i))
    ∙ same_behind b d s t (leaps_alike p q b d s t l m e)

pub same_by_steps : (b d : List ℕ) (j k : ℕ) → length b ≡ length d
    → pointwise nat_eq (b ++ j ∷ []) (d ++ k ∷ []) ≡ pointwise nat_eq b d && nat_eq j k
same_by_steps b d j k e = let h = same_behind b d (j ∷ []) (k ∷ []) e in grind (arith, nat_tests, h)

-- where the names before leaps of both don't differ, the numbers of the leaps tell where they do
pub differ_by_leaps : (p q b d s t : List ℕ) (found : Option (ℕ × ℕ)) → IsLeap p b s → IsLeap q d t
    → length p ≡ length q
    → option_or (first_difference p q) found
    ≡ option_or (first_difference b d) (option_or (first_difference s t) found)
differ_by_leaps p q b d s t found l m e =
    ap (λ r. option_or r found) ((λ i. first_difference (l.whole_is i) (m.whole_is i))
    ∙ behind b d s t (leaps_alike p q b d s t l m e))
    ∙ or_assoc (first_difference b d) (first_difference s t) found

-- the same of a step
pub differ_by_steps : (b d : List ℕ) (j k : ℕ) (found : Option (ℕ × ℕ)) → length b ≡ length d
    → option_or (first_difference (b ++ j ∷ []) (d ++ k ∷ [])) found
    ≡ option_or (first_difference b d) (cond (nat_eq j k) found (Some (j, k)))
differ_by_steps b d j k found e = ap (λ r. option_or r found) (behind b d (j ∷ []) (k ∷ []) e)
    ∙ (or_assoc (first_difference b d) (first_difference (j ∷ []) (k ∷ [])) found
    ∙ ap (option_or (first_difference b d)) (last j k)) where
      last : (j k : ℕ) → option_or (first_difference (j ∷ []) (k ∷ [])) found ≡ cond (nat_eq j k) found (Some (j, k))
      last j k = grind (arith, nat_tests)

-- the name before a leap is an ancestor's
pub leaps_up : (whole before numbers : List ℕ) → IsLeap whole before numbers → IsAncestor before whole
leaps_up whole before [] l = absurd (let e = l.length_is in grind (arith, e))
leaps_up whole before (k ∷ rest) l = record { number = k; rest = rest; goes_on = l.whole_is }
