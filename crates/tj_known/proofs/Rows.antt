-- Lists after one element was added or changed, and rows of truth values.
use Rattle.std.proofs.Common.{◌≡◌, ℕ, zero, suc, ◌<◌, Bool, List, [], ◌∷◌, ◌++◌, Some, length, set}
use Rattle.std.proofs.Common.{refl, ap, arith}
use Rattle.std.specs.Prelude.{slice_get}
use Rattle.tj_known.specs.Inner.Learners.{has_index}

-- an element that was put there
pub get_put : {A : Type 0} (xs : List A) (i : ℕ) (y : A) → i < length xs → slice_get (set xs i y) i ≡ Some y
get_put [] i y less = absurd (omega arith)
get_put (x ∷ xs) zero y less = refl
get_put (x ∷ xs) (suc i) y less = get_put xs i y (omega arith)

-- the other elements stay
pub get_other : {A : Type 0} (xs : List A) (i k : ℕ) (y : A) → (k ≡ i → ⊥) → slice_get (set xs i y) k ≡ slice_get xs k
get_other [] i k y differs = refl
get_other (x ∷ xs) zero zero y differs = absurd (differs refl)
get_other (x ∷ xs) zero (suc k) y differs = refl
get_other (x ∷ xs) (suc i) zero y differs = refl
get_other (x ∷ xs) (suc i) (suc k) y differs = get_other xs i k y (λ e. differs (ap suc e))

-- an element that was added behind the others
pub get_last : {A : Type 0} (xs : List A) (y : A) → slice_get (xs ++ y ∷ []) (length xs) ≡ Some y
get_last [] y = refl
get_last (x ∷ xs) y = get_last xs y

-- those that were there before it
pub get_earlier : {A : Type 0} (xs : List A) (y : A) (k : ℕ) → k < length xs
    → slice_get (xs ++ y ∷ []) k ≡ slice_get xs k
get_earlier [] y k less = absurd (omega arith)
get_earlier (x ∷ xs) y zero less = refl
get_earlier (x ∷ xs) y (suc k) less = get_earlier xs y k (omega arith)

-- a mark that was added
pub mark_last : (row : List Bool) (b : Bool) → has_index (row ++ b ∷ []) (length row) ≡ b
mark_last [] b = refl
mark_last (x ∷ row) b = mark_last row b

-- the marks before it
pub mark_earlier : (row : List Bool) (b : Bool) (k : ℕ) → k < length row → has_index (row ++ b ∷ []) k ≡ has_index row k
mark_earlier [] b k less = absurd (omega arith)
mark_earlier (x ∷ row) b zero less = refl
mark_earlier (x ∷ row) b (suc k) less = mark_earlier row b k (omega arith)
