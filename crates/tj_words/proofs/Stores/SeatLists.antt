-- Lists over seats, in which one seat's element changes, and words of which one changes.
use Rattle.tj_words.proofs.Prelude.{All, Each, IsIn, List, OfSeat, [], ap, arith, at_longer, at_map, at_set, at_snoc}
use Rattle.tj_words.proofs.Prelude.{dite, get_elem?, get_or-set_other, get_or-set_same, inl, inr, length, map, map-set}
use Rattle.tj_words.proofs.Prelude.{refl, set, set_again, set_else, set_here, some, some-injective, some-ne-none, subst}
use Rattle.tj_words.proofs.Prelude.{suc, sym, total, word, zero, ℕ, ℕ_discrete, ⊎_elim, ◌++◌, ◌<◌, ◌∙◌, ◌∷◌, ◌≡◌, ◌≢◌}
use Rattle.tj_words.proofs.Prelude.{◌≤◌}

-- a proof goes back along a path of facts
pub back : {X Y : Type 0} → X ≡ Y → Y → X
back p y = subst (λ (Z : Type 0). Z) (sym p) y

module _ {A : Type 0} where
  -- what holds of each seat's element, and of the new one, holds after
  pub each_set : (F : ℕ → A → Type 0) (l : List A) (i : ℕ) (a : A) → Each F l → F i a → Each F (set l i a)
  each_set F l i a h new j x e = ⊎_elim
      (λ (t : (j ≡ i) × (a ≡ x)). subst (λ k. F k x) (sym t.0) (subst (F i) t.1 new))
      (λ (t : (j ≢ i) × (get_elem? l j ≡ some x)). h j x t.1) (at_set l i j a x e)

  -- the same, where the old one need not hold
  pub each_else : (F : ℕ → A → Type 0) (l : List A) (i : ℕ) (a : A)
      → ((j : ℕ) (x : A) → j ≢ i → get_elem? l j ≡ some x → F j x) → F i a → Each F (set l i a)
  each_else F l i a h new j x e = ⊎_elim
      (λ (t : (j ≡ i) × (a ≡ x)). subst (λ k. F k x) (sym t.0) (subst (F i) t.1 new))
      (λ (t : (j ≢ i) × (get_elem? l j ≡ some x)). h j x t.0 t.1) (at_set l i j a x e)

  -- one seat alone
  pub each_only : (F : ℕ → A → Type 0) (a : A) → F 0 a → Each F (a ∷ [])
  each_only F a h zero x e = subst (F zero) (some-injective a x e) h
  each_only F a h (suc j) x e = absurd (some-ne-none x (sym e))

  -- a seat more
  pub each_snoc : (F : ℕ → A → Type 0) (l : List A) (a : A) → Each F l → ((j : ℕ) → F j a) → Each F (l ++ a ∷ [])
  each_snoc F l a h new j x e = ⊎_elim (λ (t : get_elem? l j ≡ some x). h j x t)
      (λ (t : a ≡ x). subst (F j) t (new j)) (at_snoc l a x j e)

  -- a field that a step leaves alone is the same in all views
  pub same_field : {C : Type 0} (f : A → C) (l : List A) (i : ℕ) (a b : A) → get_elem? l i ≡ some a → f b ≡ f a
      → map f (set l i b) ≡ map f l
  same_field f l i a b at e =
      map-set f l i b ∙ (ap (set (map f l) i) e ∙ set_again (map f l) i (f a) (at_map f l i a at))

-- the words but the one that is stored are as before
pub word_else : (ws : List ℕ) (i j x : ℕ) → j ≢ i → word (set ws i x) j ≡ word ws j
word_else ws i j x n = get_or-set_other ws i j x 0 n

-- the word that is stored
pub word_here : (ws : List ℕ) (i x : ℕ) → i < length ws → word (set ws i x) i ≡ x
word_here ws i x h = get_or-set_same ws i x 0 h

-- storing what stands in a word changes nothing
pub words_same : (ws : List ℕ) (i : ℕ) → set ws i (word ws i) ≡ ws
words_same [] i = refl
words_same (x ∷ xs) zero = refl
words_same (x ∷ xs) (suc i) = ap (λ l. x ∷ l) (words_same xs i)

-- a seat that is there has a number below that of the seats
pub inside : {A : Type 0} (l : List A) (i : ℕ) (a : A) → get_elem? l i ≡ some a → i < length l
inside [] i a e = absurd (some-ne-none a (sym e))
inside (x ∷ xs) zero a e = omega arith
inside (x ∷ xs) (suc i) a e = let h = inside xs i a e in omega arith

module _ {A : Type 0} (F : A → Type 0) (l : List A) where
  -- the seat that changes
  pub of_seat_here : (i : ℕ) (a b : A) → get_elem? l i ≡ some a → F b → OfSeat F (set l i b) i
  of_seat_here i a b at new = (b, set_here l i b (inside l i a at), new)

  -- another seat
  pub of_seat_else : (i j : ℕ) (b : A) → j ≢ i → OfSeat F l j → OfSeat F (set l i b) j
  of_seat_else i j b n h = (h.0, set_else l i j b n ∙ h.1, h.2)

  -- any seat, where the one that changes keeps what is so of it
  pub of_seat_set : (i j : ℕ) (a b : A) → get_elem? l i ≡ some a → (F a → F b) → OfSeat F l j
      → OfSeat F (set l i b) j
  of_seat_set i j a b at keep h = dite (ℕ_discrete j i)
      (λ e. subst (OfSeat F (set l i b)) (sym e)
      (of_seat_here i a b at (keep (subst F (some-injective h.0 a (sym h.1 ∙ (ap (get_elem? l) e ∙ at))) h.2))))
      (λ n. of_seat_else i j b n h)

  -- a seat more
  pub of_seat_snoc : (a : A) (j : ℕ) → OfSeat F l j → OfSeat F (l ++ a ∷ []) j
  of_seat_snoc a j h = (h.0, at_longer l (a ∷ []) j h.0 h.1, h.2)

-- what stands at an index of a mapped list
pub map_back : {A C : Type 0} (f : A → C) (l : List A) (i : ℕ) (c : C) → get_elem? (map f l) i ≡ some c
    → (a : A) × (get_elem? l i ≡ some a) × (f a ≡ c)
map_back f [] i c e = absurd (some-ne-none c (sym e))
map_back f (x ∷ xs) zero c e = (x, refl, some-injective (f x) c e)
map_back f (x ∷ xs) (suc i) c e = map_back f xs i c e

-- one of the numbers is no more than the sum
pub one_part : (l : List ℕ) (i a : ℕ) → get_elem? l i ≡ some a → a ≤ total l
one_part [] i a e = absurd (some-ne-none a (sym e))
one_part (x ∷ xs) zero a e = let q : x ≡ a = some-injective x a e in omega arith
one_part (x ∷ xs) (suc i) a e = let q = one_part xs i a e in omega arith

-- what stands at an index is in the list
pub in_of_index : {A : Type 0} (l : List A) (c : ℕ) (x : A) → get_elem? l c ≡ some x → IsIn x l
in_of_index [] c x e = absurd (some-ne-none x (sym e))
in_of_index (y ∷ ys) zero x e = inl (sym (some-injective y x e))
in_of_index (y ∷ ys) (suc c) x e = inr (in_of_index ys c x e)

-- what holds of all elements holds with one more
pub all_cons : {A : Type 0} (F : A → Type 0) (x : A) (xs : List A) → F x → All F xs → All F (x ∷ xs)
all_cons F x xs h k y (inl e) = subst F (sym e) h
all_cons F x xs h k y (inr i) = k y i

-- what holds of all elements of two lists holds of all of both together
pub all_append : {A : Type 0} (F : A → Type 0) (xs ys : List A) → All F xs → All F ys → All F (xs ++ ys)
all_append F [] ys h k y i = k y i
all_append F (x ∷ xs) ys h k y (inl e) = h y (inl e)
all_append F (x ∷ xs) ys h k y (inr i) = all_append F xs ys (λ z m. h z (inr m)) k y i
