-- Names that come one after the other on a walk over the fork tree.
use Rattle.tj_report.proofs.Prelude.{IsBefore, Name, [], ap, arith, refl, sym, ℕ, ◌++◌, ◌<◌, ◌∙◌, ◌∷◌, ◌≡◌}
use Rattle.std.specs.Cmp.{ranks}
use Rattle.std.specs.Cmp.Lexicographic.{slice_cmp}
use Rattle.std.specs.Ordering.{nat_cmp, ordering_then, MatchOrdering}
use Rattle.std.specs.declared.cmp.Ordering.{Ordering}
use Rattle.std.specs.declared.cmp.Ordering.TheVariants.{Less, Equal, Greater}

less : (x y : ℕ) (r : Ordering) → MatchOrdering r (x < y) (x ≡ y) (y < x) → x < y → r ≡ Less
less x y Less h l = refl
less x y Equal h l = let e : x ≡ y = h in absurd (omega arith)
less x y Greater h l = let k : y < x = h in absurd (omega arith)

equal : (x : ℕ) (r : Ordering) → MatchOrdering r (x < x) (x ≡ x) (x < x) → r ≡ Equal
equal x Equal h = refl
equal x r h = let k : x < x = h in absurd (omega arith)

-- a name comes before that of what it made
pub before_child : (x : Name) (k : ℕ) → IsBefore x (x ++ k ∷ [])
before_child [] k = refl
before_child (n ∷ x) k =
    ap (λ r. ordering_then r (slice_cmp nat_cmp x (x ++ k ∷ []))) (equal n (nat_cmp n n) (ranks n n))
    ∙ before_child x k

-- what goes on from a name comes before a later fork of the same maker
pub before_fork : (x rest : Name) (j k : ℕ) → j < k → IsBefore ((x ++ j ∷ []) ++ rest) (x ++ k ∷ [])
before_fork [] rest j k l =
    ap (λ r. ordering_then r (slice_cmp nat_cmp rest [])) (less j k (nat_cmp j k) (ranks j k) l)
before_fork (n ∷ x) rest j k l =
    ap (λ r. ordering_then r (slice_cmp nat_cmp ((x ++ j ∷ []) ++ rest) (x ++ k ∷ [])))
    (equal n (nat_cmp n n) (ranks n n))
    ∙ before_fork x rest j k l

-- no name comes before itself
pub not_before : (x : Name) → IsBefore x x → ⊥
not_before [] e = absurd (cc)
not_before (n ∷ x) e = not_before x
    (sym (ap (λ r. ordering_then r (slice_cmp nat_cmp x x)) (equal n (nat_cmp n n) (ranks n n))) ∙ e)
