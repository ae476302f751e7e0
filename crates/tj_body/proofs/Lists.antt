-- Beginnings of lists, and lists with some items left out.
use Rattle.std.proofs.Common.{◌≡◌, suc, ◌≤◌, ◌⊎◌, inl, inr, ⊎_elim, List, [], ◌∷◌, ◌++◌, map, length}
use Rattle.std.proofs.Common.{refl, sym, ap, ◌∙◌, subst, arith, append_assoc, append-nil, length-append}
use Rattle.std.specs.List.{flat_map}
use Rattle.tj_body.specs.Points.{IsIn, Begins}

module _ {A : Type 0} where
  -- a list is a beginning of itself
  pub begins_self : (l : List A) → Begins l l
  begins_self l = ([], sym (append-nil l))

  -- and of what is longer
  pub begins_more : (l r : List A) → Begins l (l ++ r)
  begins_more l r = (r, refl)

  -- a beginning of a beginning is one
  pub begins_trans : (a b c : List A) → Begins a b → Begins b c → Begins a c
  begins_trans a b c p q = (p.0 ++ q.0, q.1 ∙ (ap (λ z. z ++ q.0) p.1 ∙ append_assoc a p.0 q.0))

  -- an element of the first part
  pub in_left : (x : A) (l m : List A) → IsIn x l → IsIn x (l ++ m)
  in_left x [] m h = absurd h
  in_left x (y ∷ ys) m (inl e) = inl e
  in_left x (y ∷ ys) m (inr h) = inr (in_left x ys m h)

  -- an element of the second part
  pub in_right : (x : A) (l m : List A) → IsIn x m → IsIn x (l ++ m)
  in_right x [] m h = h
  in_right x (y ∷ ys) m h = inr (in_right x ys m h)

  -- an element of two parts is one of either
  pub in_either : (x : A) (l m : List A) → IsIn x (l ++ m) → IsIn x l ⊎ IsIn x m
  in_either x [] m h = inr h
  in_either x (y ∷ ys) m (inl e) = inl (inl e)
  in_either x (y ∷ ys) m (inr h) = ⊎_elim (λ a. inl (inr a)) (λ b. inr b) (in_either x ys m h)

  -- an element of a beginning is one of the list
  pub in_begins : (x : A) (l m : List A) → Begins l m → IsIn x l → IsIn x m
  in_begins x l m b h = subst (IsIn x) (sym b.1) (in_left x l b.0 h)

  -- l is m with some items left out
  abbrev pub Sub : List A → List A → Type 0
  Sub l [] = l ≡ []
  Sub l (y ∷ ys) = Sub l ys ⊎ ((k : List A) × (l ≡ y ∷ k) × Sub k ys)

  -- all items left out
  pub sub_nil : (m : List A) → Sub [] m
  sub_nil [] = refl
  sub_nil (y ∷ ys) = inl (sub_nil ys)

  -- one item kept
  pub sub_cons : (x : A) (l m : List A) → Sub l m → Sub (x ∷ l) (x ∷ m)
  sub_cons x l m h = inr (l, refl, h)

  -- part by part
  pub sub_append : (a b c d : List A) → Sub a b → Sub c d → Sub (a ++ c) (b ++ d)
  sub_append a [] c d p q = subst (λ z. Sub (z ++ c) d) (sym p) q
  sub_append a (y ∷ ys) c d (inl p) q = inl (sub_append a ys c d p q)
  sub_append a (y ∷ ys) c d (inr p) q = inr (p.0 ++ c, ap (λ z. z ++ c) p.1, sub_append p.0 ys c d p.2 q)

  -- none left out
  pub sub_self : (l : List A) → Sub l l
  sub_self [] = refl
  sub_self (x ∷ xs) = sub_cons x xs xs (sub_self xs)

  -- a beginning leaves out the rest
  pub sub_begins : (l m : List A) → Begins l m → Sub l m
  sub_begins l m b =
      let z : Sub (l ++ []) (l ++ b.0) = sub_append l l [] b.0 (sub_self l) (sub_nil b.0) in
      subst (λ x. Sub x m) (append-nil l) (subst (Sub (l ++ [])) (sym b.1) z)

  -- it isn't longer
  pub sub_length : (l m : List A) → Sub l m → length l ≤ length m
  sub_length l [] p = rw p (omega arith)
  sub_length l (y ∷ ys) (inl p) = let h = sub_length l ys p in omega arith
  sub_length l (y ∷ ys) (inr p) = let h = sub_length p.0 ys p.2 in rw p.1 (omega arith)

  -- with no item left out it is the whole
  pub sub_whole : (l m : List A) → Sub l m → length m ≤ length l → l ≡ m
  sub_whole l [] p h = p
  sub_whole l (y ∷ ys) (inl p) h = let k = sub_length l ys p in absurd (omega arith)
  sub_whole l (y ∷ ys) (inr p) h =
      let g : length l ≡ suc (length p.0) = ap length p.1 in
      p.1 ∙ ap (λ z. y ∷ z) (sub_whole p.0 ys p.2 (omega arith))

  -- its elements are elements
  pub sub_in : (x : A) (l m : List A) → Sub l m → IsIn x l → IsIn x m
  sub_in x l [] p h = subst (IsIn x) p h
  sub_in x l (y ∷ ys) (inl p) h = inr (sub_in x l ys p h)
  sub_in x l (y ∷ ys) (inr p) h = ⊎_elim (λ e. inl e) (λ i. inr (sub_in x p.0 ys p.2 i)) (subst (IsIn x) p.1 h)

module _ {A C : Type 0} where
  -- lists of which items are left out, for items of which some are left out
  pub flat_map_sub : (f g : A → List C) → ((x : A) → Sub (f x) (g x)) → (l m : List A) → Sub l m
      → Sub (flat_map f l) (flat_map g m)
  flat_map_sub f g h l [] p = subst (λ z. Sub (flat_map f z) []) (sym p) refl
  flat_map_sub f g h l (y ∷ ys) (inl p) =
      sub_append [] (g y) (flat_map f l) (flat_map g ys) (sub_nil (g y)) (flat_map_sub f g h l ys p)
  flat_map_sub f g h l (y ∷ ys) (inr p) =
      subst (λ z. Sub (flat_map f z) (flat_map g (y ∷ ys))) (sym p.1)
      (sub_append (f y) (g y) (flat_map f p.0) (flat_map g ys) (h y) (flat_map_sub f g h p.0 ys p.2))

  -- an element of the list of an element
  pub in_flat_map : (f : A → List C) (x : A) (z : C) (l : List A) → IsIn x l → IsIn z (f x) → IsIn z (flat_map f l)
  in_flat_map f x z [] i j = absurd i
  in_flat_map f x z (y ∷ ys) (inl e) j = in_left z (f y) (flat_map f ys) (subst (λ w. IsIn z (f w)) e j)
  in_flat_map f x z (y ∷ ys) (inr i) j = in_right z (f y) (flat_map f ys) (in_flat_map f x z ys i j)

  -- an element of all lists is one of the list of an element
  pub from_flat_map : (f : A → List C) (z : C) (l : List A) → IsIn z (flat_map f l) → (x : A) × IsIn x l × IsIn z (f x)
  from_flat_map f z [] h = absurd h
  from_flat_map f z (y ∷ ys) h =
      ⊎_elim (λ a. (y, inl refl, a)) (λ b. let r = from_flat_map f z ys b in (r.0, inr r.1, r.2))
      (in_either z (f y) (flat_map f ys) h)

-- an element of a mapped list is that of some element, and the other way round
pub in_map : {A C : Type 0} (f : A → C) (z : C) (l : List A) → IsIn z (map f l) → (x : A) × IsIn x l × (z ≡ f x)
in_map f z [] i = absurd i
in_map f z (x ∷ xs) (inl e) = (x, inl refl, e)
in_map f z (x ∷ xs) (inr i) = let r = in_map f z xs i in (r.0, inr r.1, r.2)

pub to_map : {A C : Type 0} (f : A → C) (x : A) (l : List A) → IsIn x l → IsIn (f x) (map f l)
to_map f x [] i = absurd i
to_map f x (y ∷ ys) (inl e) = inl (ap f e)
to_map f x (y ∷ ys) (inr i) = inr (to_map f x ys i)

-- where all lists together didn't grow, none did, and what holds of a list that didn't grow holds of all of them
module _ {A C : Type 0} (f g h : A → List C) (grown : (x : A) → Sub (f x) (g x))
    (same_next : (x : A) → length (g x) ≤ length (f x) → h x ≡ g x) where
  -- all lists together are the next ones
  pub flat_map_still : (l : List A) → length (flat_map g l) ≤ length (flat_map f l) → flat_map h l ≡ flat_map g l
  flat_map_still [] e = refl
  flat_map_still (x ∷ xs) e =
      let a = length-append (g x) (flat_map g xs) in
      let b = length-append (f x) (flat_map f xs) in
      let c = sub_length (f x) (g x) (grown x) in
      let d = sub_length (flat_map f xs) (flat_map g xs) (flat_map_sub f g grown xs xs (sub_self xs)) in
      let p = same_next x (omega arith) in
      let r = flat_map_still xs (omega arith) in
      λ i. p i ++ r i
