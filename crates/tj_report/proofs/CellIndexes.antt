-- Cells by their indexes in a list.
use Rattle.tj_report.proofs.Prelude.{AreDistinct, IsCell, IsIn, List, Name, None, Option, Reference, Some, [], ap}
use Rattle.tj_report.proofs.Prelude.{arith, get_elem?, get_or, inl, inr, length, names, refl, some, some-injective}
use Rattle.tj_report.proofs.Prelude.{subst, suc, sym, zero, ℕ, ◌<◌, ◌∙◌, ◌∷◌, ◌≡◌}
use mathlib.Core.Option.{some-ne-none}
use Rattle.tj_body.proofs.Lists.{to_map}

-- each index below the length has an element, and each element stands at such an index
pub there : {A : Type 0} (l : List A) (c : ℕ) → c < length l → (x : A) × (get_elem? l c ≡ some x)
there [] c h = absurd (omega arith)
there (x ∷ xs) zero h = (x, refl)
there (x ∷ xs) (suc c) h = there xs c (omega arith)

pub within : {A : Type 0} (l : List A) (c : ℕ) (x : A) → get_elem? l c ≡ some x → c < length l
within [] c x e = absurd (some-ne-none x (sym e))
within (y ∷ ys) zero x e = omega arith
within (y ∷ ys) (suc c) x e = let h = within ys c x e in omega arith

abbrev pub name_of : Reference → Name
name_of r = r.name

-- a cell is among those that are named, and has the name of what it is
pub name_there : (born : List Reference) (c : ℕ) (r : Reference) → IsCell born c r
    → (c < length (names born)) × (get_or (names born) c [] ≡ r.name)
name_there [] c r e = absurd (some-ne-none r (sym e))
name_there (x ∷ xs) zero r e = (omega arith, ap name_of (some-injective x r e))
name_there (x ∷ xs) (suc c) r e = let h = name_there xs c r e in (let l = h.0 in omega arith, h.1)

stands_in : (l : List Reference) (c : ℕ) (r : Reference) → IsCell l c r → IsIn r l
stands_in [] c r e = absurd (some-ne-none r (sym e))
stands_in (y ∷ ys) zero r e = inl (sym (some-injective y r e))
stands_in (y ∷ ys) (suc c) r e = inr (stands_in ys c r e)

-- cells whose names stand once each are told apart by their names
pub cells_apart : (l : List Reference) → AreDistinct (names l) → (c d : ℕ) (y z : Reference) → IsCell l c y
    → IsCell l d z → y.name ≡ z.name → c ≡ d
cells_apart [] h c d y z e f q = absurd (some-ne-none y (sym e))
cells_apart (x ∷ xs) h zero zero y z e f q = refl
cells_apart (x ∷ xs) h zero (suc d) y z e f q = absurd (h.0 (subst (λ w. IsIn w (names xs))
    (sym q ∙ ap name_of (sym (some-injective x y e))) (to_map name_of z xs (stands_in xs d z f))))
cells_apart (x ∷ xs) h (suc c) zero y z e f q = absurd (h.0 (subst (λ w. IsIn w (names xs))
    (q ∙ ap name_of (sym (some-injective x z f))) (to_map name_of y xs (stands_in xs c y e))))
cells_apart (x ∷ xs) h (suc c) (suc d) y z e f q = ap suc (cells_apart xs h.1 c d y z e f q)

-- what stands at an index, in either form
pub elem_of_get : {A : Type 0} (l : List (Option A)) (c : ℕ) (r : A) → get_or l c None ≡ Some r
    → get_elem? l c ≡ some (Some r)
elem_of_get [] c r e = let z : None ≡ Some r = e in absurd (cc)
elem_of_get (x ∷ xs) zero r e = ap (λ o. some o) e
elem_of_get (x ∷ xs) (suc c) r e = elem_of_get xs c r e

pub get_of_elem : {A : Type 0} (l : List (Option A)) (c : ℕ) (r : A) → get_elem? l c ≡ some (Some r)
    → get_or l c None ≡ Some r
get_of_elem [] c r e = absurd (some-ne-none (Some r) (sym e))
get_of_elem (x ∷ xs) zero r e = some-injective x (Some r) e
get_of_elem (x ∷ xs) (suc c) r e = get_of_elem xs c r e
