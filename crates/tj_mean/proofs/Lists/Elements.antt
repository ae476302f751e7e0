-- Elements of lists, and their indexes.
use Rattle.std.proofs.Common.{◌≡◌, ℕ, zero, suc, ◌<◌, ◌≤◌, ◌⊎◌, inl, inr, Bool, true, false, ◌||◌, List, [], ◌∷◌, ◌++◌}
use Rattle.std.proofs.Common.{length, take, Some, refl, sym, ap, subst, arith}
use Rattle.std.specs.Prelude.{slice_get, unwrap_or}
use Rattle.std.specs.List.{All, Contains}
use Rattle.std.proofs.lemmas.List.Elements.{All-cons}
use Rattle.tj_base.specs.ForkOrder.{Name}
use Rattle.tj_body.specs.Names.{same, has}
use Rattle.tj_body.specs.Points.{IsIn}
use Rattle.tj_body.proofs.Counts.{same_is}

pub some_is : {A : Type 0} (x y : A) → Some x ≡ Some y → x ≡ y
some_is x y e = ap (λ o. unwrap_or o x) e

-- what stands at an index is an element, and each element has an index
pub in_get : {A : Type 0} (xs : List A) (k : ℕ) (x : A) → slice_get xs k ≡ Some x → IsIn x xs
in_get [] k x e = absurd (cc)
in_get (y ∷ ys) zero x e = inl (sym (some_is y x e))
in_get (y ∷ ys) (suc k) x e = inr (in_get ys k x e)

pub get_in : {A : Type 0} (xs : List A) (x : A) → IsIn x xs → (k : ℕ) × (slice_get xs k ≡ Some x)
get_in [] x i = absurd i
get_in (y ∷ ys) x (inl e) = (zero, ap Some (sym e))
get_in (y ∷ ys) x (inr i) = let r = get_in ys x i in (suc r.0, r.1)

pub get_less : {A : Type 0} (xs : List A) (k : ℕ) (x : A) → slice_get xs k ≡ Some x → k < length xs
get_less [] k x e = absurd (cc)
get_less (y ∷ ys) zero x e = omega arith
get_less (y ∷ ys) (suc k) x e = let r = get_less ys k x e in omega arith

pub get_there : {A : Type 0} (xs : List A) (k : ℕ) → k < length xs → (x : A) × (slice_get xs k ≡ Some x)
get_there [] k l = absurd (omega arith)
get_there (y ∷ ys) zero l = (y, refl)
get_there (y ∷ ys) (suc k) l = get_there ys k (omega arith)

pub in_contains : {A : Type 0} (xs : List A) (x : A) → IsIn x xs → Contains xs x
in_contains [] x i = absurd i
in_contains (y ∷ ys) x (inl e) = (0, omega arith, sym e)
in_contains (y ∷ ys) x (inr i) = let r = in_contains ys x i in let l = r.1 in (suc r.0, omega arith, r.2)

-- what holds of each element holds of all
pub all_of_in : {A : Type 0} (P : A → Type 0) (xs : List A) → ((x : A) → IsIn x xs → P x) → All P xs
all_of_in P [] h = λ k d l. absurd (omega arith)
all_of_in P (x ∷ xs) h = All-cons P x xs (h x (inl refl)) (all_of_in P xs (λ y i. h y (inr i)))

pub in_of_all : {A : Type 0} (P : A → Type 0) (xs : List A) → All P xs → (x : A) → IsIn x xs → P x
in_of_all P [] a x i = absurd i
in_of_all P (y ∷ ys) a x (inl e) = subst P (sym e) (a 0 y (omega arith))
in_of_all P (y ∷ ys) a x (inr i) = in_of_all P ys (λ k d l. a (suc k) d (omega arith)) x i

pub in_of_has : (q : Name) (xs : List Name) → has q xs ≡ true → IsIn q xs
in_of_has q [] h = absurd (cc)
in_of_has q (x ∷ xs) h = by_same (in_of_has q xs) (same q x) refl h where
  by_same : (has q xs ≡ true → IsIn q xs) → (b : Bool) → same q x ≡ b → (b || has q xs) ≡ true → (q ≡ x) ⊎ IsIn q xs
  by_same rec true e g = inl (same_is q x e)
  by_same rec false e g = inr (rec g)

-- lists with one element more
pub in_snoc : {A : Type 0} (xs : List A) (x y : A) → IsIn x (xs ++ y ∷ []) → IsIn x xs ⊎ (x ≡ y)
in_snoc [] x y (inl e) = inr e
in_snoc [] x y (inr i) = absurd i
in_snoc (z ∷ xs) x y (inl e) = inl (inl e)
in_snoc (z ∷ xs) x y (inr i) = by (in_snoc xs x y i) where
  by : IsIn x xs ⊎ (x ≡ y) → IsIn x (z ∷ xs) ⊎ (x ≡ y)
  by (inl j) = inl (inr j)
  by (inr e) = inr e

pub in_left : {A : Type 0} (xs : List A) (x y : A) → IsIn x xs → IsIn x (xs ++ y ∷ [])
in_left [] x y i = absurd i
in_left (z ∷ xs) x y (inl e) = inl e
in_left (z ∷ xs) x y (inr i) = inr (in_left xs x y i)

pub in_right : {A : Type 0} (xs : List A) (x y : A) → x ≡ y → IsIn x (xs ++ y ∷ [])
in_right [] x y e = inl e
in_right (z ∷ xs) x y e = inr (in_right xs x y e)

-- a whole list is taken
pub all_taken : {A : Type 0} (xs : List A) (i : ℕ) → length xs ≤ i → take i xs ≡ xs
all_taken [] zero l = refl
all_taken [] (suc i) l = refl
all_taken (x ∷ xs) zero l = absurd (omega arith)
all_taken (x ∷ xs) (suc i) l = ap (λ z. x ∷ z) (all_taken xs i (omega arith))
