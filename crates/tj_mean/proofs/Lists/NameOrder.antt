-- Lists in name order, and lists with the same elements.
use Rattle.std.proofs.Common.{◌≡◌, ℕ, suc, ◌+◌, ◌<◌, ◌≤◌, inl, Bool, true, false, List, [], ◌∷◌, map, length, get_or}
use Rattle.std.proofs.Common.{refl, sym, ap, ◌∙◌, subst, arith}
use Rattle.std.specs.List.{AllByRecursion, sum_by}
use Rattle.std.specs.List.Sorted.{IsPermutation, IsSortedBy, IsStrictlySortedBy}
use Rattle.std.specs.Cmp.Lexicographic.{slice_cmp, texts_ties, nat_list_cmp_total}
use Rattle.std.specs.Ordering.{nat_cmp, is_lt, is_le, is_eq, ordering_reverse}
use Rattle.std.specs.declared.cmp.Ordering.{Ordering}
use Rattle.std.specs.declared.cmp.Ordering.TheVariants.{Less, Equal, Greater}
use Rattle.std.proofs.lemmas.List.Sorted.{All-permutation, IsPermutation-sym, sum_by-IsPermutation, sorted_far}
use Rattle.std.proofs.lemmas.List.Sums.{sum_by-cons}
use Rattle.std.proofs.lemmas.List.MinMax.{ranks_by}
use Rattle.std.proofs.lemmas.Fn.{always_returns_same}
use Rattle.std.specs.Cmp.{IsStrictWeakOrder}
use Rattle.std.specs.Fn.{Called, ComparesAs}
use denote.Ref.{Bor}
use denote.Param.Members.{Mut}
use Rattle.tj_base.specs.ForkOrder.{Name}
use Rattle.tj_body.specs.Names.{at_most, in_order}
use Rattle.tj_body.specs.NameLaws.{AreInOrder, OrderedIsOne}
use Rattle.tj_body.specs.Points.{IsIn}
use Rattle.tj_body.specs.Laws.{AreDistinct}
use Rattle.tj_body.proofs.Counts.{is, times, same_is, distinct_of_times, times_of_distinct}
use Rattle.tj_mean.specs.Outcomes.{Ascend}
use Rattle.tj_mean.proofs.Lists.Elements.{all_of_in, in_of_all}

abbrev pub order : Name → Name → Ordering
order x y = slice_cmp nat_cmp x y

pub same_of_equal : (x y : Name) → order x y ≡ Equal → x ≡ y
same_of_equal x y e = same_is x y (texts_ties x y ∙ ap is_eq e)

-- of two names that differ one comes first
less : (x y : Name) → is_lt (order y x) ≡ false → (x ≡ y → ⊥) → order x y ≡ Less
less x y f n = by_order (order x y) refl where
  by_order : (o : Ordering) → order x y ≡ o → order x y ≡ Less
  by_order Less e = e
  by_order Equal e = absurd (n (same_of_equal x y e))
  by_order Greater e =
      let r : order y x ≡ Less = nat_list_cmp_total.antisymm y x ∙ ap ordering_reverse e in
      let z : true ≡ false = sym (ap is_lt r) ∙ f in
      absurd (cc)

before_all : (x y : Name) (ys : List Name) → order x y ≡ Less → AllByRecursion (λ z. order y z ≡ Less) ys
    → AllByRecursion (λ z. order x z ≡ Less) ys
before_all x y [] e h = tt
before_all x y (z ∷ zs) e h = (nat_list_cmp_total.trans x y z e h.0, before_all x y zs e h.1)

module _ {A : Type 0} (key : A → Name) where
  abbrev pub earlier : A → A → Bool
  earlier a b = is_lt (order (key a) (key b))

  sorted_tail : (x : A) (xs : List A) → IsSortedBy earlier (x ∷ xs) → IsSortedBy earlier xs
  sorted_tail x xs s k d l m =
      let up : suc k + 1 ≡ suc (k + 1) = omega arith in
      subst (λ j. earlier (get_or (x ∷ xs) j d) (get_or xs k d) ≡ false) up (s (suc k) d (omega arith) (omega arith))

  -- a sorted list of elements with distinct names ascends
  pub ascends : (xs : List A) → IsSortedBy earlier xs → AreDistinct (map key xs) → Ascend (map key xs)
  unfolding IsStrictlySortedBy
  ascends [] s d = tt
  ascends (x ∷ []) s d = (tt, tt)
  ascends (x ∷ y ∷ ys) s d =
      let h = ascends (y ∷ ys) (sorted_tail x (y ∷ ys) s) d.1 in
      let first : order (key x) (key y) ≡ Less = less (key x) (key y) (s 0 x (omega arith) (omega arith))
      (λ e. d.0 (inl e)) in
      ((first, before_all (key x) (key y) (map key ys) first h.0), h)

  -- a sort by a closure that compares the keys sorts by them
  pub sorted_by : {F : Type 0} {g : Mut F (Bor A × (Bor A × Unit {0})) Ordering} {f : F} (xs : List A)
      → ((lt : A → A → Bool) → IsStrictWeakOrder lt → ComparesAs g lt f → IsSortedBy lt xs)
      → ((a : Bor A × (Bor A × Unit {0})) (r : Ordering) (f' : F) → Called g f a r f'
      → (r ≡ order (key a.0.now) (key a.1.0.now)) × (f' ≡ f))
      → IsSortedBy earlier xs
  sorted_by {g = g} {f = f} xs up h = up earlier (ranks_by nat_list_cmp_total key)
      (always_returns_same g (λ a r. is_lt r ≡ earlier a.0.now a.1.0.now) f
      (λ a r f' k. (ap is_lt (h a r f' k).0, (h a r f' k).1)))

  times_key : (q : Name) (xs : List A) → times q (map key xs) ≡ sum_by (λ a. is q (key a)) xs
  times_key q [] = refl
  times_key q (x ∷ xs) = ap (λ n. is q (key x) + n) (times_key q xs) ∙ sym (sum_by-cons (λ a. is q (key a)) x xs)

  -- names that are distinct stay so in another order
  pub distinct_permuted : (xs ys : List A) → IsPermutation xs ys → AreDistinct (map key xs) → AreDistinct (map key ys)
  distinct_permuted xs ys p d =
      distinct_of_times (map key ys)
      (λ q. let a = times_key q xs in let b = times_key q ys in
      let c = sum_by-IsPermutation (λ a. is q (key a)) xs ys p in
      let e = times_of_distinct q (map key xs) d in
      omega arith)

  -- a sort of elements with distinct names, by a closure that compares these, leaves them in name order
  pub sorted_ascends : {F : Type 0} {g : Mut F (Bor A × (Bor A × Unit {0})) Ordering} {f : F} (xs ys : List A)
      → ((lt : A → A → Bool) → IsStrictWeakOrder lt → ComparesAs g lt f → IsSortedBy lt ys)
      → ((a : Bor A × (Bor A × Unit {0})) (r : Ordering) (f' : F) → Called g f a r f'
      → (r ≡ order (key a.0.now) (key a.1.0.now)) × (f' ≡ f))
      → IsPermutation xs ys → AreDistinct (map key xs) → Ascend (map key ys)
  sorted_ascends xs ys up h p d = ascends ys (sorted_by ys up h) (distinct_permuted xs ys p d)

module _ {A : Type 0} where
  -- another order has the same elements
  pub in_permuted : (xs ys : List A) → IsPermutation xs ys → (x : A) → IsIn x ys → IsIn x xs
  in_permuted xs ys p =
      let P : A → Type 0 = λ x. IsIn x xs in in_of_all P ys (All-permutation P xs ys p (all_of_in P xs (λ x i. i)))

  pub in_unpermuted : (xs ys : List A) → IsPermutation xs ys → (x : A) → IsIn x xs → IsIn x ys
  in_unpermuted xs ys p = in_permuted ys xs (IsPermutation-sym xs ys p)

at_most_from : (x y : Name) → is_lt (order y x) ≡ false → at_most x y ≡ true
at_most_from x y f = by (order y x) refl where
  by : (o : Ordering) → order y x ≡ o → at_most x y ≡ true
  by Less e = let z : true ≡ false = sym (ap is_lt e) ∙ f in absurd (cc)
  by o e = ap is_le (nat_list_cmp_total.antisymm x y ∙ ap ordering_reverse e)

all_after : (x : Name) (xs : List Name) → ((j : ℕ) → j < length xs → at_most x (get_or xs j x) ≡ true)
    → AllByRecursion (λ y. at_most x y ≡ true) xs
all_after x [] h = tt
all_after x (y ∷ ys) h = (h 0 (omega arith), all_after x ys (λ j l. after y j (h (suc j) (omega arith))))
  where
    after : (y : Name) (j : ℕ) → at_most x (get_or (y ∷ ys) (suc j) x) ≡ true → at_most x (get_or ys j x) ≡ true
    after y j h = h

in_order_from : (xs : List Name)
    → ((i j : ℕ) (d : Name) → i ≤ j → j < length xs → is_lt (order (get_or xs j d) (get_or xs i d)) ≡ false)
    → AreInOrder xs
in_order_from [] f = tt
in_order_from (x ∷ xs) f = (
  all_after x xs (λ j l. at_most_from x (get_or xs j x) (f 0 (suc j) x (omega arith) (omega arith))),
  in_order_from xs (λ i j d a b. f (suc i) (suc j) d (omega arith) (omega arith)),
)

abbrev pub self : Name → Name
self x = x

-- a sorted list of the names is that in name order
pub sorted_is_ordered : OrderedIsOne → (l m : List Name) → IsPermutation l m
    → IsSortedBy (λ x y. is_lt (order x y)) m → m ≡ in_order l
sorted_is_ordered law l m p s = (law l).2 m p
    (in_order_from m (sorted_far (λ x y. is_lt (order x y)) (ranks_by nat_list_cmp_total self) m s))
