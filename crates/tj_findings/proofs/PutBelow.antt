-- A finding that is put below the cause with a number, as the code does it.
use Rattle.std.proofs.Common.{◌≡◌, ◌<◌, ◌≤◌, ℕ, zero, suc, List, [], ◌∷◌, ◌++◌, get_or, length, map, refl, ap, ◌∙◌}
use Rattle.std.proofs.Common.{arith, slice_set}
use Rattle.tj_findings.specs.Forests.{Tree, put_below, view_tree}
use Rattle.tj_findings.specs.declared.finding.Finding.{Finding}
use Rattle.tj_findings.specs.declared.forest.Tree as code

-- a cause with one finding more below it
abbrev with_more : code.Tree → Finding → Tree
with_more t f = record { root = t.root; below = t.below.items ++ f ∷ [] }

-- the cause with the number is there
pub put_there : (ts : List code.Tree) (n : ℕ) (f : Finding) (t new : code.Tree) → n < length ts → t ≡ get_or ts n t
    → view_tree new ≡ with_more t f → map view_tree (slice_set ts n new) ≡ put_below n f (map view_tree ts)
put_there [] n f t new less is put = absurd (omega (arith, less))
put_there (x ∷ xs) zero f t new less is put =
    ap (λ z. z ∷ map view_tree xs) (put ∙ ap (λ (z : code.Tree). with_more z f) is)
put_there (x ∷ xs) (suc n) f t new less is put =
    ap (λ l. view_tree x ∷ l) (put_there xs n f t new (omega (arith, less)) is put)

-- there is no such cause
pub put_past : (ts : List code.Tree) (n : ℕ) (f : Finding) → length ts ≤ n
    → map view_tree ts ≡ put_below n f (map view_tree ts)
put_past [] zero f past = refl
put_past [] (suc n) f past = refl
put_past (x ∷ xs) zero f past = absurd (omega (arith, past))
put_past (x ∷ xs) (suc n) f past = ap (λ l. view_tree x ∷ l) (put_past xs n f (omega (arith, past)))
