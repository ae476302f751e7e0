-- How often a name stands in lists.
use Rattle.std.proofs.Common.{◌≡◌, ℕ, zero, suc, ◌+◌, ◌≤◌, Bool, true, false, cond, nat_eq, ◌&&◌, ◌||◌, ◌⊎◌, inl, inr}
use Rattle.std.proofs.Common.{List, [], ◌∷◌, ◌++◌, map, length, Ok, refl, sym, ap, ◌∙◌, subst, arith, eqb-true}
use Rattle.std.proofs.Common.{eq-eqb}
use native.Mathlib.Decide.{dec_le}
use mathlib.Core.Logic.{dite}
use Rattle.std.specs.List.{flat_map}
use Rattle.tj_base.specs.ForkOrder.{Name}
use Rattle.tj_base.specs.declared.cell.Sort.{Sort}
use Rattle.tj_base.specs.declared.cell.Sort.TheVariants as sort
use Rattle.tj_body.specs.Names.{same, at_most, has, without, put_in, in_order}
use Rattle.tj_body.specs.History.{with_entry, hand_one, hand_all}
use Rattle.tj_body.specs.Points.{IsIn}
use Rattle.tj_body.specs.Laws.{AreDistinct}
use Rattle.tj_body.specs.declared.point.Reference.{Reference}
use Rattle.tj_body.specs.declared.point.Entry.{Entry}

-- a name is the same as itself
pub same_self : (x : Name) → same x x ≡ true
same_self [] = refl
same_self (x ∷ xs) = rw (eq-eqb x x refl) (same_self xs)

-- names that are the same are equal
pub same_is : (x y : Name) → same x y ≡ true → x ≡ y
same_is [] [] e = refl
same_is [] (y ∷ ys) e = cc
same_is (x ∷ xs) [] e = cc
same_is (x ∷ xs) (y ∷ ys) e = both (nat_eq x y) (same xs ys) (same_is xs ys) refl refl e where
  both : (a b : Bool) → (same xs ys ≡ true → xs ≡ ys) → nat_eq x y ≡ a → same xs ys ≡ b
      → (nat_eq x y && same xs ys) ≡ true → x ∷ xs ≡ y ∷ ys
  both true true rec p q r = let u : x ≡ y = eqb-true x y p in let v = rec q in λ i. u i ∷ v i
  both true false rec p q r = let w : false ≡ true = sym (λ i. p i && q i) ∙ r in absurd (cc)
  both false b rec p q r = let w : false ≡ true = sym (ap (λ z. z && same xs ys) p) ∙ r in absurd (cc)

-- 1 where it is true
abbrev pub one_if : Bool → ℕ
one_if true = 1
one_if false = 0

-- which is at most 1
pub at_most_one : (b : Bool) → one_if b ≤ 1
at_most_one true = omega arith
at_most_one false = omega arith

-- the sum of f over the list
abbrev pub total : {A : Type 0} → (A → ℕ) → List A → ℕ
total f [] = 0
total f (x ∷ xs) = f x + total f xs

-- 1 where x is q
abbrev pub is : Name → Name → ℕ
is q x = one_if (same q x)

-- how often q stands in the list
abbrev pub times : Name → List Name → ℕ
times q l = total (is q) l

-- how often q is written
abbrev pub wrote : Name → List (Name × Entry) → ℕ
wrote q l = total (λ w. is q w.0) l

-- how often q stands among the names of items
pub times_map : {A : Type 0} (f : A → Name) (q : Name) (l : List A) → times q (map f l) ≡ total (λ x. is q (f x)) l
times_map f q [] = refl
times_map f q (x ∷ xs) = ap (λ z. is q (f x) + z) (times_map f q xs)

module _ {A : Type 0} where
  -- the sum over two lists
  pub total_append : (f : A → ℕ) (l m : List A) → total f (l ++ m) ≡ total f l + total f m
  total_append f [] m = omega arith
  total_append f (x ∷ xs) m = let h = total_append f xs m in omega arith

  -- a sum of smaller numbers is smaller
  pub total_le : (f g : A → ℕ) → ((x : A) → f x ≤ g x) → (l : List A) → total f l ≤ total g l
  total_le f g h [] = omega arith
  total_le f g h (x ∷ xs) = let a = h x in let b = total_le f g h xs in omega arith

  -- a sum of equal numbers is the same
  pub total_same : (f g : A → ℕ) → ((x : A) → f x ≡ g x) → (l : List A) → total f l ≡ total g l
  total_same f g h l = ap (λ k. total k l) (λ i x. h x i)

  -- some item counts where all of them do
  pub total_some : (f : A → ℕ) (l : List A) → 1 ≤ total f l → (x : A) × IsIn x l × (1 ≤ f x)
  total_some f [] h = absurd (omega arith)
  total_some f (x ∷ xs) h =
      dite (dec_le 1 (f x)) (λ l. (x, inl refl, l))
      (λ l. let r = total_some f xs (omega arith) in (r.0, inr r.1, r.2))

  -- the sum of sums
  pub total_add : (f g : A → ℕ) (l : List A) → total (λ x. f x + g x) l ≡ total f l + total g l
  total_add f g [] = omega arith
  total_add f g (x ∷ xs) = let b = total_add f g xs in omega arith

  -- an item counts no more than all of them
  pub total_in : (f : A → ℕ) (x : A) (l : List A) → IsIn x l → f x ≤ total f l
  total_in f x [] i = absurd i
  total_in f x (y ∷ ys) (inl e) = let z : f x ≡ f y = ap f e in omega arith
  total_in f x (y ∷ ys) (inr i) = let h = total_in f x ys i in omega arith

  -- at most one item of a list counts
  pub total_one : (f : A → ℕ) (l : List A) → total f l ≤ 1 → (x y : A) → IsIn x l → IsIn y l → 1 ≤ f x → 1 ≤ f y
      → x ≡ y
  total_one f [] h x y i j a b = absurd i
  total_one f (z ∷ zs) h x y (inl i) (inl j) a b = i ∙ sym j
  total_one f (z ∷ zs) h x y (inl i) (inr j) a b =
      let c = total_in f y zs j in let d : f x ≡ f z = ap f i in absurd (omega arith)
  total_one f (z ∷ zs) h x y (inr i) (inl j) a b =
      let c = total_in f x zs i in let d : f y ≡ f z = ap f j in absurd (omega arith)
  total_one f (z ∷ zs) h x y (inr i) (inr j) a b = total_one f zs (omega arith) x y i j a b

-- the sum over lists of lists
pub total_flat_map : {A C : Type 0} (f : C → ℕ) (g : A → List C) (l : List A)
    → total f (flat_map g l) ≡ total (λ (x : A). total f (g x)) l
total_flat_map f g [] = refl
total_flat_map f g (x ∷ xs) =
    let h = total_flat_map f g xs in let k = total_append f (g x) (flat_map g xs) in omega arith

-- a name that is taken out stands once less often
pub times_without : (q x : Name) (l : List Name) → has x l ≡ true → times q (without x l) + is q x ≡ times q l
times_without q x [] h = cc
times_without q x (y ∷ ys) h = by_same (times_without q x ys) (same x y) refl where
  by_same : (has x ys ≡ true → times q (without x ys) + is q x ≡ times q ys) → (b : Bool) → same x y ≡ b
      → times q (cond (same x y) ys (y ∷ without x ys)) + is q x ≡ is q y + times q ys
  by_same rec true e =
      let z = same_is x y e in
      rw e (subst (λ w. times q ys + is q w ≡ is q y + times q ys) (sym z) (omega arith))
  by_same rec false e =
      let r : has x ys ≡ true = sym (ap (λ z. z || has x ys) e) ∙ h in let k = rec r in rw e (omega arith)

-- a name that is put in stands once more often
pub times_put_in : (q x : Name) (l : List Name) → times q (put_in x l) ≡ is q x + times q l
times_put_in q x [] = refl
times_put_in q x (y ∷ ys) = by_order (times_put_in q x ys) (at_most x y) refl where
  by_order : times q (put_in x ys) ≡ is q x + times q ys → (b : Bool) → at_most x y ≡ b
      → times q (cond (at_most x y) (x ∷ y ∷ ys) (y ∷ put_in x ys)) ≡ is q x + (is q y + times q ys)
  by_order k true e = rw e refl
  by_order k false e = rw e (omega arith)

-- in order each name stands as often
pub times_in_order : (q : Name) (l : List Name) → times q (in_order l) ≡ times q l
times_in_order q [] = refl
times_in_order q (x ∷ xs) = let h = times_in_order q xs in let k = times_put_in q x (in_order xs) in omega arith

-- with an entry each name is written as often as it stood
pub wrote_all : (q : Name) (e : Entry) (l : List Name) → wrote q (map (with_entry e) l) ≡ times q l
wrote_all q e [] = refl
wrote_all q e (x ∷ xs) = let h = wrote_all q e xs in omega arith

-- what is handed leaves the promises held
pub times_hand_all : (q : Name) (holds : List Name) (rs : List Reference) (l : List Name) → hand_all holds rs ≡ Ok l
    → times q l + times q (map (λ (r : Reference). r.name) rs) ≡ times q holds
times_hand_all q holds [] l e = let z : holds ≡ l = cc in rw z (omega arith)
times_hand_all q holds (r ∷ rs) l e =
    by_sort (times_hand_all q (without r.name holds) rs l) r.sort (has r.name holds) refl e where
      by_sort : (hand_all (without r.name holds) rs ≡ Ok l
          → times q l + times q (map (λ (x : Reference). x.name) rs) ≡ times q (without r.name holds))
          → (s : Sort) (b : Bool) → has r.name holds ≡ b
          → hand_one s b r.name (hand_all (without r.name holds) rs) ≡ Ok l
          → times q l + (is q r.name + times q (map (λ (x : Reference). x.name) rs)) ≡ times q holds
      by_sort rec sort.Task b h g = cc
      by_sort rec sort.Promise true h g = let k = rec g in let m = times_without q r.name holds h in omega arith
      by_sort rec sort.Promise false h g = cc

-- what stands in a list is found
pub has_of_times : (x : Name) (l : List Name) → 1 ≤ times x l → has x l ≡ true
has_of_times x [] h = absurd (omega arith)
has_of_times x (y ∷ ys) h = by_same (has_of_times x ys) (same x y) refl h where
  by_same : (1 ≤ times x ys → has x ys ≡ true) → (b : Bool) → same x y ≡ b → 1 ≤ one_if b + times x ys
      → (b || has x ys) ≡ true
  by_same rec true e g = refl
  by_same rec false e g = rec (omega arith)

length_without : (x : Name) (l : List Name) → has x l ≡ true → length l ≡ suc (length (without x l))
length_without x [] h = cc
length_without x (y ∷ ys) h = by_same (length_without x ys) (same x y) h where
  by_same : (has x ys ≡ true → length ys ≡ suc (length (without x ys))) → (b : Bool) → (b || has x ys) ≡ true
      → suc (length ys) ≡ suc (length (cond b ys (y ∷ without x ys)))
  by_same rec true g = refl
  by_same rec false g = ap suc (rec g)

-- a list in which no name stands more often isn't longer
pub fewer : (l m : List Name) → ((q : Name) → times q l ≤ times q m) → length l ≤ length m
fewer [] m h = omega arith
fewer (x ∷ xs) m h =
    let a : 1 ≤ times x m = (let z = h x in let y : is x x ≡ 1 = rw (same_self x) refl in omega arith) in
    let b = has_of_times x m a in
    let c = length_without x m b in
    let r = fewer xs (without x m) (λ q. let z = h q in let w = times_without q x m b in omega arith) in
    omega arith

-- what stands once or more is an element
pub in_of_times : (q : Name) (l : List Name) → 1 ≤ times q l → IsIn q l
in_of_times q [] h = absurd (omega arith)
in_of_times q (x ∷ xs) h = by_same (in_of_times q xs) (same q x) refl h where
  by_same : (1 ≤ times q xs → IsIn q xs) → (b : Bool) → same q x ≡ b → 1 ≤ one_if b + times q xs → (q ≡ x) ⊎ IsIn q xs
  by_same rec true e g = inl (same_is q x e)
  by_same rec false e g = inr (rec (omega arith))

-- and what counts is the name
pub name_of_is : (q x : Name) → 1 ≤ is q x → q ≡ x
name_of_is q x h = by (same q x) refl h where
  by : (b : Bool) → same q x ≡ b → 1 ≤ one_if b → q ≡ x
  by true e g = same_is q x e
  by false e g = absurd (omega arith)

-- what is written has an entry
pub entry_of_wrote : (q : Name) (l : List (Name × Entry)) → 1 ≤ wrote q l → (e : Entry) × IsIn (q, e) l
entry_of_wrote q l h =
    let r = total_some (λ (w : Name × Entry). is q w.0) l h in
    let n = name_of_is q r.0.0 r.2 in
    (r.0.1, subst (λ (z : Name). IsIn (z, r.0.1) l) (sym n) r.1)

-- a name counts itself
pub is_one : (q x : Name) → q ≡ x → is q x ≡ 1
is_one q x e = subst (λ y. is q y ≡ 1) e (rw (same_self q) refl)

-- an element stands once or more
pub times_of_in : (q : Name) (l : List Name) → IsIn q l → 1 ≤ times q l
times_of_in q [] i = absurd i
times_of_in q (x ∷ xs) (inl e) = let z = is_one q x e in omega arith
times_of_in q (x ∷ xs) (inr i) = let r = times_of_in q xs i in omega arith

-- what stands at most once in a list, and stands in another, stands no more often
pub at_least : (q : Name) (l m : List Name) → times q l ≤ 1 → (IsIn q l → IsIn q m) → times q l ≤ times q m
at_least q l m a h =
    dite (dec_le 1 (times q l))
    (λ z. let b = times_of_in q m (h (in_of_times q l z)) in omega arith) (λ z. omega arith)

-- no name twice: each stands at most once
pub distinct_of_times : (l : List Name) → ((q : Name) → times q l ≤ 1) → AreDistinct l
distinct_of_times [] h = tt
distinct_of_times (x ∷ xs) h = (
  λ i. let a = times_of_in x xs i in let b = h x in let c = is_one x x refl in omega arith,
  distinct_of_times xs (λ q. let b = h q in omega arith),
)

-- where no name stands twice, each stands at most once
pub times_of_distinct : (q : Name) (l : List Name) → AreDistinct l → times q l ≤ 1
times_of_distinct q [] h = omega arith
times_of_distinct q (x ∷ xs) h = by_same (times_of_distinct q xs h.1) (same q x) refl where
  none : same q x ≡ true → (n : ℕ) → times q xs ≡ n → 1 + times q xs ≤ 1
  none e zero z = omega arith
  none e (suc n) z = absurd (h.0 (subst (λ y. IsIn y xs) (same_is q x e) (in_of_times q xs (omega arith))))

  by_same : times q xs ≤ 1 → (b : Bool) → same q x ≡ b → one_if b + times q xs ≤ 1
  by_same r false e = omega arith
  by_same r true e = none e (times q xs) refl
