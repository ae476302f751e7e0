-- Lists of names in order, and names for cells.
use Rattle.std.proofs.Common.{◌≡◌, ℕ, ◌+◌, inl, inr, Bool, true, false, cond, ◌||◌, nat_eq}
use Rattle.std.proofs.Common.{List, [], ◌∷◌, map, refl, sym, ap, ◌∙◌, subst, arith, eqb-true}
use Rattle.std.proofs.Common.{eq-eqb}
use Rattle.std.specs.List.{AllByRecursion, sum_by}
use Rattle.std.specs.List.Sorted.{IsPermutation}
use Rattle.std.specs.Cmp.Lexicographic.{slice_cmp, texts_ties, nat_list_cmp_total}
use Rattle.std.specs.Ordering.{nat_cmp, is_le, is_eq, ordering_reverse}
use Rattle.std.specs.declared.cmp.Ordering.{Ordering}
use Rattle.std.specs.declared.cmp.Ordering.TheVariants.{Less, Equal, Greater}
use Rattle.std.proofs.lemmas.List.Sorted.{IsPermutation-refl, IsPermutation-cons, IsPermutation-trans}
use Rattle.std.proofs.lemmas.List.Sorted.{IsPermutation-middle, IsPermutation-sym, sum_by-IsPermutation}
use Rattle.std.proofs.lemmas.List.Sums.{sum_by-cons}
use Rattle.tj_base.specs.ForkOrder.{Name}
use Rattle.tj_base.specs.declared.cell.Sort.{Sort}
use Rattle.tj_base.specs.declared.cell.Sort.TheVariants as sort
use Rattle.tj_body.specs.Names.{same, has, without, at_most, put_in, in_order}
use Rattle.tj_body.specs.History.{hand_one, hand_all}
use Rattle.tj_body.specs.Points.{IsIn}
use Rattle.tj_body.specs.NameLaws.{AreInOrder, SameIsEqual, OrderedIsOne, OrderedHasSame, OrderedIsSame, has_cell}
use Rattle.tj_body.specs.NameLaws.{without_cell, hand_cell, hand_cells, named_reference, named_kept}
use Rattle.tj_body.specs.NameLaws.{AreTold, NamesTellCells}
use Rattle.tj_body.proofs.Counts.{is, is_one, times, same_self, same_is, times_of_in, in_of_times, times_in_order}

pub same_is_equal : SameIsEqual
same_is_equal x y = (same_is x y, λ e. subst (λ z. same x z ≡ true) e (same_self x))

-- the name order is total
abbrev order : Name → Name → Ordering
order x y = slice_cmp nat_cmp x y

equal : (x y : Name) → order x y ≡ Equal → x ≡ y
equal x y e = same_is x y (texts_ties x y ∙ ap is_eq e)

other_way : (x y : Name) → at_most x y ≡ false → at_most y x ≡ true
other_way x y f = by (order x y) refl where
  by : (o : Ordering) → order x y ≡ o → at_most y x ≡ true
  by Greater e = ap is_le (nat_list_cmp_total.antisymm y x ∙ ap ordering_reverse e)
  by o e = let z : true ≡ false = sym (ap is_le e) ∙ f in absurd (cc)

both_ways : (x y : Name) → at_most x y ≡ true → at_most y x ≡ true → x ≡ y
both_ways x y p q = by (order x y) refl where
  by : (o : Ordering) → order x y ≡ o → x ≡ y
  by Equal e = equal x y e
  by Less e =
      let z : false ≡ true = sym (ap is_le (nat_list_cmp_total.antisymm y x ∙ ap ordering_reverse e)) ∙ q in absurd (cc)
  by Greater e = let z : false ≡ true = sym (ap is_le e) ∙ p in absurd (cc)

at_most-trans : (x y z : Name) → at_most x y ≡ true → at_most y z ≡ true → at_most x z ≡ true
at_most-trans x y z p q = by (order x y) (order y z) refl refl where
  by : (a b : Ordering) → order x y ≡ a → order y z ≡ b → at_most x z ≡ true
  by Greater b e f = let w : false ≡ true = sym (ap is_le e) ∙ p in absurd (cc)
  by Equal b e f = subst (λ w. at_most w z ≡ true) (sym (equal x y e)) q
  by Less Less e f = ap is_le (nat_list_cmp_total.trans x y z e f)
  by Less Equal e f = subst (λ w. at_most x w ≡ true) (equal y z f) p
  by Less Greater e f = let w : false ≡ true = sym (ap is_le f) ∙ q in absurd (cc)

all_later : (x y : Name) (ys : List Name) → at_most x y ≡ true → AllByRecursion (λ z. at_most y z ≡ true) ys
    → AllByRecursion (λ z. at_most x z ≡ true) ys
all_later x y [] e h = tt
all_later x y (z ∷ zs) e h = (at_most-trans x y z e h.0, all_later x y zs e h.1)

all_put_in : (x q : Name) (ys : List Name) → at_most x q ≡ true → AllByRecursion (λ z. at_most x z ≡ true) ys
    → AllByRecursion (λ z. at_most x z ≡ true) (put_in q ys)
all_put_in x q [] e h = (e, tt)
all_put_in x q (y ∷ ys) e h = by (at_most q y) (all_put_in x q ys e h.1) where
  by : (b : Bool) → AllByRecursion (λ z. at_most x z ≡ true) (put_in q ys)
      → AllByRecursion (λ z. at_most x z ≡ true) (cond b (q ∷ y ∷ ys) (y ∷ put_in q ys))
  by true r = (e, h)
  by false r = (h.0, r)

ordered_put_in : (q : Name) (ys : List Name) → AreInOrder ys → AreInOrder (put_in q ys)
ordered_put_in q [] h = (tt, tt)
ordered_put_in q (y ∷ ys) h = by (at_most q y) refl (ordered_put_in q ys h.1) where
  by : (b : Bool) → at_most q y ≡ b → AreInOrder (put_in q ys)
      → AreInOrder (cond b (q ∷ y ∷ ys) (y ∷ put_in q ys))
  by true e r = ((e, all_later q y ys e h.0), h)
  by false e r = (all_put_in y q ys (other_way q y e) h.0, r)

ordered : (l : List Name) → AreInOrder (in_order l)
ordered [] = tt
ordered (x ∷ xs) = ordered_put_in x (in_order xs) (ordered xs)

permuted_put_in : (q : Name) (ys : List Name) → IsPermutation (q ∷ ys) (put_in q ys)
permuted_put_in q [] = IsPermutation-refl (q ∷ [])
permuted_put_in q (y ∷ ys) = by (at_most q y) (permuted_put_in q ys) where
  by : (b : Bool) → IsPermutation (q ∷ ys) (put_in q ys)
      → IsPermutation (q ∷ y ∷ ys) (cond b (q ∷ y ∷ ys) (y ∷ put_in q ys))
  by true r = IsPermutation-refl (q ∷ y ∷ ys)
  by false r = IsPermutation-trans (q ∷ y ∷ ys) (y ∷ q ∷ ys) (y ∷ put_in q ys)
      (IsPermutation-sym (y ∷ q ∷ ys) (q ∷ y ∷ ys) (IsPermutation-middle (y ∷ []) q ys))
      (IsPermutation-cons y (q ∷ ys) (put_in q ys) r)

permuted : (l : List Name) → IsPermutation l (in_order l)
permuted [] = IsPermutation-refl []
permuted (x ∷ xs) = IsPermutation-trans (x ∷ xs) (x ∷ in_order xs) (put_in x (in_order xs))
    (IsPermutation-cons x xs (in_order xs) (permuted xs)) (permuted_put_in x (in_order xs))

times_sum : (q : Name) (l : List Name) → times q l ≡ sum_by (is q) l
times_sum q [] = refl
times_sum q (x ∷ xs) = ap (λ n. is q x + n) (times_sum q xs) ∙ sym (sum_by-cons (is q) x xs)

times_permuted : (q : Name) (l m : List Name) → IsPermutation l m → times q m ≡ times q l
times_permuted q l m p = times_sum q m ∙ sum_by-IsPermutation (is q) l m p ∙ sym (times_sum q l)

first_least : (x q : Name) (xs : List Name) → AllByRecursion (λ y. at_most x y ≡ true) xs → IsIn q (x ∷ xs)
    → at_most x q ≡ true
first_least x q xs h (inl e) =
    subst (λ z. at_most x z ≡ true) (sym e) (by (at_most x x) refl) where
      by : (b : Bool) → at_most x x ≡ b → at_most x x ≡ true
      by true f = f
      by false f = other_way x x f
first_least x q [] h (inr i) = absurd i
first_least x q (y ∷ ys) h (inr (inl e)) = subst (λ z. at_most x z ≡ true) (sym e) h.0
first_least x q (y ∷ ys) h (inr (inr i)) = first_least x q ys h.1 (inr i)

-- two lists in order with the same names, as often, are one
one_order : (l m : List Name) → AreInOrder l → AreInOrder m → ((q : Name) → times q l ≡ times q m) → l ≡ m
one_order [] [] h g t = refl
one_order [] (y ∷ ys) h g t = let a = t y in let b = is_one y y refl in absurd (omega arith)
one_order (x ∷ xs) [] h g t = let a = t x in let b = is_one x x refl in absurd (omega arith)
one_order (x ∷ xs) (y ∷ ys) h g t =
    let a = t x in
    let b = is_one x x refl in
    let c = t y in
    let d = is_one y y refl in
    let e : x ≡ y = both_ways x y (first_least x y xs h.0 (in_of_times y (x ∷ xs) (omega arith)))
    (first_least y x ys g.0 (in_of_times x (y ∷ ys) (omega arith))) in
    let r = one_order xs ys h.1 g.1 (λ q. let u = t q in let v : is q x ≡ is q y = ap (is q) e in omega arith) in
    λ i. e i ∷ r i

pub ordered_is_one : OrderedIsOne
ordered_is_one l = (
  permuted l,
  ordered l,
  λ m p h. one_order m (in_order l) h (ordered l) (λ q. times_permuted q l m p ∙ sym (times_in_order q l)),
)

pub ordered_has_same : OrderedHasSame
ordered_has_same q l =
    let t = times_in_order q l in (
      (λ i. let a = times_of_in q (in_order l) i in in_of_times q l (omega arith)),
      (λ i. let a = times_of_in q l i in in_of_times q (in_order l) (omega arith)),
    )

pub ordered_is_same : OrderedIsSame
ordered_is_same l m p =
    one_order (in_order l) (in_order m) (ordered l) (ordered m)
    (λ q. times_in_order q l ∙ sym (times_permuted q l m p) ∙ sym (times_in_order q m))

module _ (name : ℕ → Name) where
  -- cells are told apart by their names
  told : (c d : ℕ) → (name c ≡ name d → c ≡ d) → same (name c) (name d) ≡ nat_eq c d
  told c d h = by (same (name c) (name d)) (nat_eq c d) refl refl where
    by : (a b : Bool) → same (name c) (name d) ≡ a → nat_eq c d ≡ b → a ≡ b
    by true true e f = refl
    by false false e f = refl
    by true false e f =
        let z : true ≡ false = sym (eq-eqb c d (h (same_is (name c) (name d) e))) ∙ f in absurd (cc)
    by false true e f =
        let z : true ≡ false = sym ((same_is_equal (name c) (name d)).1 (ap name (eqb-true c d f))) ∙ e in absurd (cc)

  fewer : (c d : ℕ) (ds : List ℕ) → AreTold name (c ∷ d ∷ ds) → AreTold name (c ∷ ds)
  fewer c d ds h a b i j = h a b (skip a i) (skip b j) where
    skip : (x : ℕ) → IsIn x (c ∷ ds) → IsIn x (c ∷ d ∷ ds)
    skip x (inl e) = inl e
    skip x (inr i) = inr (inr i)

  first_two : (c d : ℕ) (ds : List ℕ) → AreTold name (c ∷ d ∷ ds) → same (name c) (name d) ≡ nat_eq c d
  first_two c d ds h = told c d (h c d (inl refl) (inr (inl refl)))

  has_told : (c : ℕ) (ds : List ℕ) → AreTold name (c ∷ ds) → has (name c) (map name ds) ≡ has_cell c ds
  has_told c [] h = refl
  has_told c (d ∷ ds) h =
      let e = first_two c d ds h in let r = has_told c ds (fewer c d ds h) in λ i. e i || r i

  without_told : (c : ℕ) (ds : List ℕ) → AreTold name (c ∷ ds)
      → without (name c) (map name ds) ≡ map name (without_cell c ds)
  without_told c [] h = refl
  without_told c (d ∷ ds) h =
      by (nat_eq c d) (first_two c d ds h) (without_told c ds (fewer c d ds h)) where
        by : (b : Bool) → same (name c) (name d) ≡ b → without (name c) (map name ds) ≡ map name (without_cell c ds)
            → cond (same (name c) (name d)) (map name ds) (name d ∷ without (name c) (map name ds))
            ≡ map name (cond b ds (d ∷ without_cell c ds))
        by true e r = rw e refl
        by false e r = rw e (ap (λ z. name d ∷ z) r)

  still_told : (c d : ℕ) (ds : List ℕ) → AreTold name (d ∷ ds) → AreTold name (d ∷ without_cell c ds)
  still_told c d ds h a b i j = h a b (more a i) (more b j) where
    kept : (x : ℕ) (es : List ℕ) → IsIn x (without_cell c es) → IsIn x es
    kept x [] i = i
    kept x (e ∷ es) i = by (nat_eq c e) (kept x es) i where
      by : (b : Bool) → (IsIn x (without_cell c es) → IsIn x es)
          → IsIn x (cond b es (e ∷ without_cell c es)) → IsIn x (e ∷ es)
      by true r i = inr i
      by false r (inl q) = inl q
      by false r (inr i) = inr (r i)

    more : (x : ℕ) → IsIn x (d ∷ without_cell c ds) → IsIn x (d ∷ ds)
    more x (inl e) = inl e
    more x (inr i) = inr (kept x ds i)

  hand_told : (owned : List ℕ) (hs : List (Sort × ℕ)) → ((h : Sort × ℕ) → IsIn h hs → AreTold name (h.1 ∷ owned))
      → hand_all (map name owned) (map (named_reference name) hs) ≡ named_kept name (hand_cells owned hs)
  hand_told owned [] t = refl
  hand_told owned (h ∷ hs) t =
      let first = t h (inl refl) in
      let r = hand_told (without_cell h.1 owned) hs (λ x i. still_told h.1 x.1 owned (t x (inr i))) in
      by h.0 (has_cell h.1 owned) (has_told h.1 owned first)
      (ap (λ z. hand_all z (map (named_reference name) hs)) (without_told h.1 owned first) ∙ r) where
        by : (s : Sort) (b : Bool) → has (name h.1) (map name owned) ≡ b
            → hand_all (without (name h.1) (map name owned)) (map (named_reference name) hs)
            ≡ named_kept name (hand_cells (without_cell h.1 owned) hs)
            → hand_one s (has (name h.1) (map name owned)) (name h.1)
            (hand_all (without (name h.1) (map name owned)) (map (named_reference name) hs))
            ≡ named_kept name (hand_cell s b h.1 (hand_cells (without_cell h.1 owned) hs))
        by sort.Task b e r = refl
        by sort.Promise true e r = rw e r
        by sort.Promise false e r = rw e refl

pub names_tell_cells : NamesTellCells
names_tell_cells name owned =
    ((λ c h. (has_told name c owned h, without_told name c owned h)), hand_told name owned)
