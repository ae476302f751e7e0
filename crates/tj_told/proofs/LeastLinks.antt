-- The links from the one on whose task has the least name.
use Rattle.std.proofs.Common.{◌≡◌, ◌<◌, ◌≤◌, ℕ, zero, suc, true, false, List, [], ◌∷◌, ◌++◌, length, get_or}
use Rattle.std.proofs.Common.{refl, sym, ap, ◌∙◌, subst, inl, inr, arith, take, drop, ◌+◌, ◌⊎◌}
use native.Mathlib.Decide.{ℕ_discrete}
use mathlib.Core.Logic.{dite}
use Rattle.std.specs.Cmp.Lexicographic.{slice_cmp, texts_ties, nat_list_cmp_total}
use Rattle.std.specs.Ordering.{nat_cmp, is_le, is_lt, is_eq, ordering_reverse}
use Rattle.std.specs.declared.cmp.Ordering.{Ordering}
use Rattle.std.specs.declared.cmp.Ordering.TheVariants.{Less, Equal, Greater}
use Rattle.tj_body.specs.Points.{IsIn}
use Rattle.tj_body.proofs.Counts.{same_is}
use Rattle.tj_mean.specs.Outcomes.{first_task}
use Rattle.tj_mean.proofs.Lists.Elements.{all_of_in}
use Rattle.tj_mean.proofs.Outcomes.Indexes.{at_most_self}
use Rattle.tj_base.specs.ForkOrder.{Name}
use Rattle.tj_body.specs.Names.{at_most}
use Rattle.tj_mean.specs.declared.outcome.Link.{Link}
use Rattle.tj_told.specs.ToldLinks.{IsFromLeast}

-- the name of the task of a link
abbrev pub name_in : List Link → ℕ → Name
name_in links k = (get_or links k (record { task = []; cell = [] })).task

-- of the links before i this one has the least name
abbrev pub IsLeastBefore : List Link → ℕ → ℕ → Type 0
IsLeastBefore links least i = (j : ℕ) → j < i → at_most (name_in links least) (name_in links j) ≡ true

abbrev pub order : Name → Name → Ordering
order x y = slice_cmp nat_cmp x y

at_most_trans : (x y z : Name) → at_most x y ≡ true → at_most y z ≡ true → at_most x z ≡ true
at_most_trans x y z p q = by (order x y) (order y z) refl refl where
  equal : (x y : Name) → order x y ≡ Equal → x ≡ y
  equal x y e = same_is x y (texts_ties x y ∙ ap is_eq e)

  by : (a b : Ordering) → order x y ≡ a → order y z ≡ b → at_most x z ≡ true
  by Greater b e f = let w : false ≡ true = sym (ap is_le e) ∙ p in absurd (cc)
  by Equal b e f = subst (λ w. at_most w z ≡ true) (sym (equal x y e)) q
  by Less Less e f = ap is_le (nat_list_cmp_total.trans x y z e f)
  by Less Equal e f = subst (λ w. at_most x w ≡ true) (equal y z f) p
  by Less Greater e f = let w : false ≡ true = sym (ap is_le f) ∙ q in absurd (cc)

at_most_from : (x y : Name) → is_lt (order y x) ≡ false → at_most x y ≡ true
at_most_from x y f = by (order y x) refl where
  by : (o : Ordering) → order y x ≡ o → at_most x y ≡ true
  by Less e = let z : true ≡ false = sym (ap is_lt e) ∙ f in absurd (cc)
  by o e = ap is_le (nat_list_cmp_total.antisymm x y ∙ ap ordering_reverse e)

at_most_less : (x y : Name) → is_lt (order x y) ≡ true → at_most x y ≡ true
at_most_less x y f = by (order x y) refl where
  by : (o : Ordering) → order x y ≡ o → at_most x y ≡ true
  by Less e = ap is_le e
  by Equal e = ap is_le e
  by Greater e = let z : false ≡ true = sym (ap is_lt e) ∙ f in absurd (cc)

-- the link at i is less, and so the least one up to it
pub less_here : (links : List Link) (least i : ℕ) → IsLeastBefore links least i
    → is_lt (order (name_in links i) (name_in links least)) ≡ true → IsLeastBefore links i (i + 1)
less_here links least i h f j l = dite (ℕ_discrete j i)
    (λ e. subst (λ z. at_most (name_in links i) (name_in links z) ≡ true) (sym e) (at_most_self (name_in links i)))
    (λ n. at_most_trans (name_in links i) (name_in links least) (name_in links j)
    (at_most_less (name_in links i) (name_in links least) f) (h j (omega arith)))

-- or it isn't
pub least_still : (links : List Link) (least i : ℕ) → IsLeastBefore links least i
    → is_lt (order (name_in links i) (name_in links least)) ≡ false → IsLeastBefore links least (i + 1)
least_still links least i h f j l = dite (ℕ_discrete j i)
    (λ e. subst (λ z. at_most (name_in links least) (name_in links z) ≡ true) (sym e)
    (at_most_from (name_in links least) (name_in links i) f))
    (λ n. h j (omega arith))

in_both : {A : Type 0} (xs ys : List A) (x : A) → IsIn x (xs ++ ys) → IsIn x xs ⊎ IsIn x ys
in_both [] ys x i = inr i
in_both (z ∷ zs) ys x (inl e) = inl (inl e)
in_both {A} (z ∷ zs) ys x (inr i) = by (in_both zs ys x i) where
  by : IsIn x zs ⊎ IsIn x ys → IsIn x (z ∷ zs) ⊎ IsIn x ys
  by (inl j) = inl (inr j)
  by (inr j) = inr j

at_of_in : (links : List Link) (l : Link) → IsIn l links → (j : ℕ) × (j < length links) × (name_in links j ≡ l.task)
at_of_in [] l i = absurd i
at_of_in (k ∷ ks) l (inl e) = (0, omega arith, ap (λ (m : Link). m.task) (sym e))
at_of_in (k ∷ ks) l (inr i) = let r = at_of_in ks l i in let x = r.1 in (suc r.0, omega arith, r.2)

taken_in : {A : Type 0} (xs : List A) (n : ℕ) (x : A) → IsIn x (take n xs) → IsIn x xs
taken_in [] zero x i = absurd i
taken_in [] (suc n) x i = absurd i
taken_in (y ∷ ys) zero x i = absurd i
taken_in (y ∷ ys) (suc n) x (inl e) = inl e
taken_in (y ∷ ys) (suc n) x (inr i) = inr (taken_in ys n x i)

dropped_in : {A : Type 0} (xs : List A) (n : ℕ) (x : A) → IsIn x (drop n xs) → IsIn x xs
dropped_in [] zero x i = absurd i
dropped_in [] (suc n) x i = absurd i
dropped_in (y ∷ ys) zero x i = i
dropped_in (y ∷ ys) (suc n) x i = inr (dropped_in ys n x i)

split_at : {A : Type 0} (xs : List A) (n : ℕ) → xs ≡ take n xs ++ drop n xs
split_at [] zero = refl
split_at [] (suc n) = refl
split_at (y ∷ ys) zero = refl
split_at (y ∷ ys) (suc n) = ap (λ l. y ∷ l) (split_at ys n)

first_dropped : (links more : List Link) (n : ℕ) → n < length links → first_task
    (drop n links ++ more) ≡ name_in links n
first_dropped [] more n l = absurd (omega arith)
first_dropped (k ∷ ks) more zero l = refl
first_dropped (k ∷ ks) more (suc n) l = first_dropped ks more n (omega arith)

some_there : (links : List Link) (l : Link) → IsIn l links → 0 < length links
some_there [] l i = absurd i
some_there (k ∷ ks) l i = omega arith

-- the links turned to the least one
pub turned_least : (links turned : List Link) (least i : ℕ) → IsLeastBefore links least i → length links ≤ i
    → (0 < length links → least < length links) → turned ≡ drop least links ++ take least links
    → IsFromLeast links turned
turned_least links turned least i h all inside is = record {
  before = take least links;
  after = drop least links;
  all = split_at links least;
  is = is;
  least = all_of_in (λ (l : Link). at_most (first_task turned) l.task ≡ true) turned (λ l j. each l
      (either l (in_both (drop least links) (take least links) l (subst (IsIn l) is j))));
}
  where
    either : (l : Link) → IsIn l (drop least links) ⊎ IsIn l (take least links) → IsIn l links
    either l (inl j) = dropped_in links least l j
    either l (inr j) = taken_in links least l j

    each : (l : Link) → IsIn l links → at_most (first_task turned) l.task ≡ true
    each l j =
        let at = at_of_in links l j in
        let small = at.1 in
        let first : first_task turned ≡ name_in links least =
        ap first_task is ∙ first_dropped links (take least links) least (inside (some_there links l j)) in
        subst (λ q. at_most q l.task ≡ true) (sym first)
        (subst (λ q. at_most (name_in links least) q ≡ true) at.2 (h at.0 (omega arith)))

-- the name of the task at an index
pub named_at : (links : List Link) (i : ℕ) (x : Link) → i < length links → x ≡ get_or links i x
    → x.task ≡ name_in links i
named_at [] i x l e = absurd (omega arith)
named_at (k ∷ ks) zero x l e = ap (λ (m : Link). m.task) e
named_at (k ∷ ks) (suc i) x l e = named_at ks i x (omega arith) e
