-- Lists whose elements have different names: two with the same elements are one in two orders.
use Rattle.std.proofs.Common.{◌≡◌, ◌⊎◌, inl, inr, List, [], ◌∷◌, ◌++◌, map, refl, sym, ap, ◌∙◌, subst}
use Rattle.std.specs.List.Sorted.{IsPermutation}
use Rattle.std.proofs.lemmas.List.Sorted.{IsPermutation-refl, IsPermutation-sym, IsPermutation-trans}
use Rattle.std.proofs.lemmas.List.Sorted.{IsPermutation-cons, IsPermutation-middle}
use Rattle.tj_base.specs.ForkOrder.{Name}
use Rattle.tj_body.specs.Laws.{AreDistinct}
use Rattle.tj_body.specs.Points.{IsIn}
use Rattle.tj_body.proofs.Lists.{in_left, in_right, in_either, in_map, to_map}

module _ {A : Type 0} where
  -- an element stands between others
  splits : (x : A) (ys : List A) → IsIn x ys → (fs bs : List A) × (ys ≡ fs ++ x ∷ bs)
  splits x [] i = absurd i
  splits x (y ∷ ys) (inl e) = ([], ys, ap (λ z. z ∷ ys) (sym e))
  splits x (y ∷ ys) (inr i) = let r = splits x ys i in (y ∷ r.0, r.1, ap (λ l. y ∷ l) r.2)

  module _ (key : A → Name) where
    -- elements with one key are one
    pub one_of_key : (xs : List A) → AreDistinct (map key xs) → (x y : A) → IsIn x xs → IsIn y xs → key x ≡ key y
        → x ≡ y
    one_of_key [] d x y i j e = absurd i
    one_of_key (z ∷ zs) d x y (inl i) (inl j) e = i ∙ sym j
    one_of_key (z ∷ zs) d x y (inl i) (inr j) e =
        absurd (d.0 (subst (λ q. IsIn q (map key zs)) (sym e ∙ ap key i) (to_map key y zs j)))
    one_of_key (z ∷ zs) d x y (inr i) (inl j) e =
        absurd (d.0 (subst (λ q. IsIn q (map key zs)) (e ∙ ap key j) (to_map key x zs i)))
    one_of_key (z ∷ zs) d x y (inr i) (inr j) e = one_of_key zs d.1 x y i j e

    key_in : (q : Name) (fs bs : List A) → IsIn q (map key (fs ++ bs)) → (x : A) → IsIn q (map key (fs ++ x ∷ bs))
    key_in q fs bs i x =
        let r = in_map key q (fs ++ bs) i in
        subst (λ n. IsIn n (map key (fs ++ x ∷ bs))) (sym r.2) (to_map key r.0 (fs ++ x ∷ bs)
        (by r.0 (in_either r.0 fs bs r.1)))
      where
        by : (y : A) → IsIn y fs ⊎ IsIn y bs → IsIn y (fs ++ x ∷ bs)
        by y (inl j) = in_left y fs (x ∷ bs) j
        by y (inr j) = in_right y fs (x ∷ bs) (inr j)

    -- without an element the keys stay distinct, and none is that element's
    taken_out : (fs bs : List A) (x : A) → AreDistinct (map key (fs ++ x ∷ bs))
        → AreDistinct (map key (fs ++ bs)) × ¬ IsIn (key x) (map key (fs ++ bs))
    taken_out [] bs x d = (d.1, d.0)
    taken_out (a ∷ fs) bs x d =
        let r = taken_out fs bs x d.1 in
        ((λ i. d.0 (key_in (key a) fs bs i x), r.0), by r.1)
      where
        by : ¬ IsIn (key x) (map key (fs ++ bs)) → IsIn (key x) (key a ∷ map key (fs ++ bs)) → ⊥
        by n (inl e) = d.0 (subst (λ q. IsIn q (map key (fs ++ x ∷ bs))) e
            (to_map key x (fs ++ x ∷ bs) (in_right x fs (x ∷ bs) (inl refl))))
        by n (inr i) = n i

    -- lists with distinct keys and the same elements are one list in two orders
    pub same_permuted : (xs ys : List A) → AreDistinct (map key xs) → AreDistinct (map key ys)
        → ((x : A) → IsIn x xs → IsIn x ys) → ((y : A) → IsIn y ys → IsIn y xs) → IsPermutation xs ys
    same_permuted [] [] d e to from = IsPermutation-refl []
    same_permuted [] (y ∷ ys) d e to from = absurd (from y (inl refl))
    same_permuted (x ∷ xs) ys d e to from =
        let r = splits x ys (to x (inl refl)) in
        let out = taken_out r.0 r.1 x (subst (λ l. AreDistinct (map key l)) r.2 e) in
        let rest = same_permuted xs (r.0 ++ r.1) d.1 out.0
        (λ z i. there r.0 r.1 z i (in_either z r.0 (x ∷ r.1) (subst (IsIn z) r.2 (to z (inr i)))))
        (λ z i. back z
        (λ e. out.1 (subst (λ q. IsIn q (map key (r.0 ++ r.1))) (ap key e) (to_map key z (r.0 ++ r.1) i)))
        (from z (subst (IsIn z) (sym r.2) (more r.0 r.1 z (in_either z r.0 r.1 i))))) in
        subst (IsPermutation (x ∷ xs)) (sym r.2)
        (IsPermutation-trans (x ∷ xs) (x ∷ (r.0 ++ r.1)) (r.0 ++ x ∷ r.1)
        (IsPermutation-cons x xs (r.0 ++ r.1) rest)
        (IsPermutation-sym (r.0 ++ x ∷ r.1) (x ∷ (r.0 ++ r.1)) (IsPermutation-middle r.0 x r.1)))
      where
        there : (fs bs : List A) (z : A) → IsIn z xs → IsIn z fs ⊎ IsIn z (x ∷ bs) → IsIn z (fs ++ bs)
        there fs bs z i (inl j) = in_left z fs bs j
        there fs bs z i (inr (inl e)) = absurd (d.0 (subst (λ q. IsIn q (map key xs)) (ap key e) (to_map key z xs i)))
        there fs bs z i (inr (inr j)) = in_right z fs bs j

        more : (fs bs : List A) (z : A) → IsIn z fs ⊎ IsIn z bs → IsIn z (fs ++ x ∷ bs)
        more fs bs z (inl j) = in_left z fs (x ∷ bs) j
        more fs bs z (inr j) = in_right z fs (x ∷ bs) (inr j)

        back : (z : A) → ¬ (z ≡ x) → IsIn z (x ∷ xs) → IsIn z xs
        back z n (inl e) = absurd (n e)
        back z n (inr i) = i

    -- an element more with a key of its own
    pub distinct_more : (xs : List A) (x : A) → AreDistinct (map key xs) → ¬ IsIn (key x) (map key xs)
        → AreDistinct (map key (xs ++ x ∷ []))
    distinct_more [] x d n = ((λ i. i), tt)
    distinct_more (y ∷ ys) x d n = (
      λ i. let r = in_map key (key y) (ys ++ x ∷ []) i in by r.0 r.2 (in_either r.0 ys (x ∷ []) r.1),
      distinct_more ys x d.1 (λ i. n (inr i)),
    )
      where
        by : (z : A) → key y ≡ key z → IsIn z ys ⊎ IsIn z (x ∷ []) → ⊥
        by z e (inl j) = d.0 (subst (λ q. IsIn q (map key ys)) (sym e) (to_map key z ys j))
        by z e (inr (inl j)) = n (inl (sym (e ∙ ap key j)))
        by z e (inr (inr j)) = j
