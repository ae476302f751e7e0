-- What stands at the end of a list, and in a list that goes on.
use Rattle.std.proofs.Common.{◌≡◌, ◌⊎◌, ℕ, zero, suc, List, [], ◌∷◌, ◌++◌, length, Some, inl, inr, refl}
use Rattle.std.proofs.Common.{ap, sym, ◌∙◌}
use Rattle.std.specs.Prelude.{slice_get}
use Rattle.tj_body.specs.Points.{Begins, IsIn}
use Rattle.tj_mean.proofs.Lists.Elements.{some_is}

-- the last of a list
pub get_last : {A : Type 0} (l : List A) (a : A) → slice_get (l ++ a ∷ []) (length l) ≡ Some a
get_last [] a = refl
get_last (x ∷ l) a = get_last l a

-- what stands at an index of a list stands there in each that begins with it
pub get_begins : {A : Type 0} (l m : List A) → Begins l m → (n : ℕ) (a : A) → slice_get l n ≡ Some a
    → slice_get m n ≡ Some a
get_begins [] m b n a h = absurd (cc)
get_begins {A} (x ∷ l) m b zero a h = ap (λ (z : List A). slice_get z 0) b.1 ∙ h
get_begins {A} (x ∷ l) m b (suc n) a h =
    ap (λ (z : List A). slice_get z (suc n)) b.1 ∙ get_begins l (l ++ b.0) (b.0, refl) n a h

-- what stands in a list with one more stands in the list, or is the one
pub get_snoc : {A : Type 0} (l : List A) (a : A) (n : ℕ) (b : A) → slice_get (l ++ a ∷ []) n ≡ Some b
    → (slice_get l n ≡ Some b) ⊎ ((n ≡ length l) × (a ≡ b))
get_snoc [] a zero b h = inr (refl, some_is a b h)
get_snoc [] a (suc n) b h = absurd (cc)
get_snoc (x ∷ l) a zero b h = inl h
get_snoc (x ∷ l) a (suc n) b h = by (get_snoc l a n b h) where
  by : (slice_get l n ≡ Some b) ⊎ ((n ≡ length l) × (a ≡ b))
      → (slice_get l n ≡ Some b) ⊎ ((suc n ≡ suc (length l)) × (a ≡ b))
  by (inl e) = inl e
  by (inr e) = inr (ap suc e.0, e.1)

-- what stands in two lists after one another stands in the first, or is one of the second
pub get_either : {A : Type 0} (l r : List A) (n : ℕ) (a : A) → slice_get (l ++ r) n ≡ Some a
    → (slice_get l n ≡ Some a) ⊎ IsIn a r
get_either [] [] n a h = absurd (cc)
get_either [] (x ∷ r) zero a h = inr (inl (sym (some_is x a h)))
get_either [] (x ∷ r) (suc n) a h = by (get_either [] r n a h) where
  by : (slice_get [] n ≡ Some a) ⊎ IsIn a r → (slice_get [] (suc n) ≡ Some a) ⊎ IsIn a (x ∷ r)
  by (inl e) = absurd (cc)
  by (inr i) = inr (inr i)
get_either (x ∷ l) r zero a h = inl h
get_either (x ∷ l) r (suc n) a h = get_either l r n a h
