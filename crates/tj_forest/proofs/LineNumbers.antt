-- The number of a line among those whose names ascend, as a search finds it, and the lines of owners, entered one by
-- one.
use Rattle.std.proofs.Common.{◌≡◌, ℕ, zero, suc, ◌<◌, ◌≤◌, ◌+◌, List, [], ◌∷◌, Option, Some, None, length, get_or}
use Rattle.std.proofs.Common.{Bool, true, false, cond, Less, Equal, Greater, Ordering, refl, sym, ap, subst, ◌∙◌, arith}
use Rattle.std.specs.Prelude.{drop, slice_get, option_and_then}
use Rattle.std.proofs.lemmas.List.{drop_all}
use Rattle.std.specs.Option.{option_or}
use Rattle.std.specs.List.{AllByRecursion, position_from}
use Rattle.std.specs.List.Sorted.{IsNonDecreasingBy, IsPartitionPoint, IsStrictlySortedBy}
use Rattle.std.specs.Cmp.Lexicographic.{slice_cmp, texts_ties, nat_list_cmp_total}
use Rattle.std.specs.Ordering.{nat_cmp, is_eq, ordering_index, ordering_reverse}
use Rattle.std.specs.Fn.{Called, ComputesKey}
use Rattle.std.proofs.lemmas.Fn.{always_returns_same}
use Rattle.std.proofs.lemmas.Option.{get_or_from_slice_get, slice_get_within}
use denote.Ref.{Bor}
use denote.Param.Members.{Mut}
use native.Mathlib.Decide.{dec_le}
use mathlib.Core.Logic.{dite}
use Rattle.tj_base.specs.ForkOrder.{Name}
use Rattle.tj_body.specs.Names.{has, same}
use Rattle.tj_mean.specs.Outcomes.{Ascend}
use Rattle.tj_body.proofs.Counts.{same_is}
use Rattle.tj_mean.proofs.Lists.Elements.{get_there, some_is}
use Rattle.tj_trace.specs.Lookups.{kept_by}
use Rattle.tj_trace.specs.Traces.{names_of}
use Rattle.tj_mean.specs.declared.name_map.NameMap.{NameMap}
use Rattle.tj_trace.specs.declared.line.TraceLine.{TraceLine}
use Rattle.tj_forest.specs.Inner.Numbers.{AreOwnersFrom, IsNumberOf, number_in}
use Rattle.tj_findings.specs.Searches.{line_of, owner_of}

-- the line with the number of what was looked up is that line
pub at_number : (lines : List TraceLine) (n : Option ℕ) (found : Option TraceLine) → IsNumberOf lines n found
    → option_and_then (slice_get lines) n ≡ found
at_number lines None found is = sym is
at_number lines (Some n) found is = is.1 ∙ sym is.2

-- no line has been entered
pub owners_none : (lines : List TraceLine) (n : ℕ) (m : NameMap ℕ) → n ≡ length lines
    → ((q : Name) → number_in m q ≡ None) → AreOwnersFrom lines n m
owners_none lines n m end none q =
    let rest : drop n lines ≡ [] = drop_all n lines (omega arith) in
    subst (λ x. IsNumberOf lines x (owner_of (drop n lines) q)) (sym (none q)) (ap (λ ls. owner_of ls q) rest)

-- one line more
pub owners_more : (lines : List TraceLine) (n k : ℕ) (l : TraceLine) (m more : NameMap ℕ)
    → slice_get lines n ≡ Some l → drop n lines ≡ l ∷ drop k lines → AreOwnersFrom lines k m
    → ((q : Name) → number_in more q ≡ cond (has q (kept_by l)) (Some n) (number_in m q))
    → AreOwnersFrom lines n more
owners_more lines n k l m more at first old is q =
    subst (λ x. IsNumberOf lines x (owner_of (drop n lines) q)) (sym (is q))
    (subst (λ ls. IsNumberOf lines (cond (has q (kept_by l)) (Some n) (number_in m q)) (owner_of ls q)) (sym first)
    (one (has q (kept_by l)) (number_in m q) (owner_of (drop k lines) q) (old q)))
  where
    one : (b : Bool) (x : Option ℕ) (y : Option TraceLine) → IsNumberOf lines x y
        → IsNumberOf lines (cond b (Some n) x) (cond b (Some l) y)
    one true x y is = (l, at, refl)
    one false x y is = is

-- what is looked up first, or else second
pub first_or : (lines : List TraceLine) (a b r : Option ℕ) (x y : Option TraceLine) → r ≡ option_or a b
    → IsNumberOf lines a x → IsNumberOf lines b y → IsNumberOf lines r (option_or x y)
first_or lines a b r x y is one other = subst (λ z. IsNumberOf lines z (option_or x y)) (sym is) (by a x one)
  where
    by : (a : Option ℕ) (x : Option TraceLine) → IsNumberOf lines a x
        → IsNumberOf lines (option_or a b) (option_or x y)
    by None None one = other
    by None (Some l) one = absurd (cc)
    by (Some n) None one = let e = one.2 in absurd (cc)
    by (Some n) (Some l) one = one

abbrev order : Name → Name → Ordering
order x y = slice_cmp nat_cmp x y

-- no answer stands above the third
top : (o : Ordering) → ordering_index o ≤ 2
top Less = omega arith
top o = omega arith

-- a name that comes first compares no higher
no_higher : (x y t : Name) → order x y ≡ Less → ordering_index (order x t) ≤ ordering_index (order y t)
no_higher x y t less = by (order y t) refl where
  by : (o : Ordering) → order y t ≡ o → ordering_index (order x t) ≤ ordering_index (order y t)
  by Less e =
      let first = ap ordering_index (nat_list_cmp_total.trans x y t less e) in
      let zero_is : ordering_index (order x t) ≡ 0 = first in omega arith
  by Equal e =
      let same : order x t ≡ order x y =
      nat_list_cmp_total.antisymm x t
      ∙ (ap ordering_reverse (sym (nat_list_cmp_total.congr y t x e)) ∙ sym (nat_list_cmp_total.antisymm x y)) in
      let zero_is : ordering_index (order x t) ≡ 0 = ap ordering_index (same ∙ less) in omega arith
  by Greater e =
      let two_is : ordering_index (order y t) ≡ 2 = ap ordering_index e in
      let high = top (order x t) in omega arith

first_no_higher : (x t : Name) (ls : List TraceLine)
    → AllByRecursion (λ y. order x y ≡ Less) (names_of ls) → (j : ℕ) (d : TraceLine) → j < length ls
    → ordering_index (order x t) ≤ ordering_index (order (get_or ls j d).line.name t)
first_no_higher x t [] all j d less = absurd (omega arith)
first_no_higher x t (l ∷ ls) all zero d less = no_higher x l.line.name t all.0
first_no_higher x t (l ∷ ls) all (suc j) d less = first_no_higher x t ls all.1 j d (omega arith)

-- names that ascend compare no lower, the later they stand
rises : (t : Name) (ls : List TraceLine) → Ascend (names_of ls)
    → IsNonDecreasingBy (λ (l : TraceLine). ordering_index (order l.line.name t)) ls
unfolding IsStrictlySortedBy
rises t [] asc i j d up less = absurd (omega arith)
rises t (l ∷ ls) asc zero zero d up less = omega arith
rises t (l ∷ ls) asc zero (suc j) d up less = first_no_higher l.line.name t ls asc.0 j d (omega arith)
rises t (l ∷ ls) asc (suc i) zero d up less = absurd (omega arith)
rises t (l ∷ ls) asc (suc i) (suc j) d up less = rises t ls asc.1 i j d (omega arith) (omega arith)

-- a name compares equal to itself
self_equal : (t : Name) → order t t ≡ Equal
self_equal t = by (order t t) (nat_list_cmp_total.antisymm t t) where
  by : (o : Ordering) → o ≡ ordering_reverse o → o ≡ Equal
  by Equal e = refl
  by o e = absurd (cc)

-- a name that is in order behind another isn't that one
later_other : (x t : Name) (ls : List TraceLine) → AllByRecursion (λ y. order x y ≡ Less) (names_of ls) → (i : ℕ)
    (l : TraceLine) → slice_get ls i ≡ Some l → l.line.name ≡ t → x ≡ t → ⊥
later_other x t [] all i l at is e = absurd (cc)
later_other x t (y ∷ ls) all zero l at is e =
    let head : y ≡ l = some_is y l at in
    let less : order t t ≡ Less =
    ap (λ z. order z t) (sym e) ∙ ap (order x) (sym (ap (λ (z : TraceLine). z.line.name) head ∙ is)) ∙ all.0 in
    not_less (sym less ∙ self_equal t)
  where
    not_less : Less ≡ Equal → ⊥
    not_less e = absurd (cc)
later_other x t (y ∷ ls) all (suc i) l at is e = later_other x t ls all.1 i l at is e

-- the line that is there is the one that is found
pub found_there : (t : Name) (ls : List TraceLine) → Ascend (names_of ls) → (i : ℕ) (l : TraceLine)
    → slice_get ls i ≡ Some l → l.line.name ≡ t → line_of ls t ≡ Some l
unfolding IsStrictlySortedBy
found_there t [] asc i l at is = absurd (cc)
found_there t (y ∷ ls) asc zero l at is = by (same y.line.name t) refl where
  by : (b : Bool) → same y.line.name t ≡ b → cond b (Some y) (line_of ls t) ≡ Some l
  by true e = at
  by false e =
      let head : y ≡ l = some_is y l at in
      let yes : same y.line.name t ≡ true =
      texts_ties y.line.name t ∙ ap is_eq (ap (λ z. order z t) (ap (λ (z : TraceLine). z.line.name) head ∙ is)
      ∙ self_equal t) in
      absurd (cc)
found_there t (y ∷ ls) asc (suc i) l at is =
    by (same y.line.name t) refl (found_there t ls asc.1 i l at is) where
      by : (b : Bool) → same y.line.name t ≡ b → line_of ls t ≡ Some l → cond b (Some y) (line_of ls t) ≡ Some l
      by true e rest = absurd (later_other y.line.name t ls asc.0 i l at is (same_is y.line.name t e))
      by false e rest = rest

-- where no line has the name, none is found
none_there : (t : Name) (ls : List TraceLine)
    → ((i : ℕ) (l : TraceLine) → slice_get ls i ≡ Some l → l.line.name ≡ t → ⊥) → line_of ls t ≡ None
none_there t [] none = refl
none_there t (y ∷ ls) none =
    by (same y.line.name t) refl (none_there t ls (λ i l at is. none (suc i) l at is)) where
      by : (b : Bool) → same y.line.name t ≡ b → line_of ls t ≡ None → cond b (Some y) (line_of ls t) ≡ None
      by true e rest = absurd (none 0 y refl (same_is y.line.name t e))
      by false e rest = rest

module _ {F : Type 0} {g : Mut F (Bor TraceLine × Unit {0}) Ordering} {f : F} (ls : List TraceLine) (t : Name)
    (calls : (a : Bor TraceLine × Unit {0}) (r : Ordering) (f' : F) → Called g f a r f'
    → (r ≡ order a.0.now.line.name t) × (f' ≡ f)) where
  -- the closure compares a line's name with this one
  computes : ComputesKey g (λ (l : TraceLine). order l.line.name t) f
  computes = always_returns_same g (λ a r. r ≡ order a.0.now.line.name t) f calls

  -- what a search finds is the number of the line
  pub found : (i : ℕ) → Ascend (names_of ls) → i < length ls
      → ((ord : TraceLine → Ordering) → ComputesKey g ord f → (d : TraceLine) → ord (get_or ls i d) ≡ Equal)
      → IsNumberOf ls (Some i) (line_of ls t)
  found i asc less position =
      let l = get_there ls i less in
      let equal = position (λ (l : TraceLine). order l.line.name t) computes l.0 in
      let is = get_or_from_slice_get ls i l.0 l.0 l.1 in
      let named : l.0.line.name ≡ t = same_is l.0.line.name t (texts_ties l.0.line.name t
      ∙ ap is_eq (sym (ap (λ (x : TraceLine). order x.line.name t) is) ∙ equal)) in
      (l.0, l.1, found_there t ls asc i l.0 l.1 named)

  -- and where it finds none, there is none
  pub missing : (i : ℕ) → Ascend (names_of ls)
      → ((ord : TraceLine → Ordering) → ComputesKey g ord f
      → IsNonDecreasingBy (λ (l : TraceLine). ordering_index (ord l)) ls
      → IsPartitionPoint (λ y. ord y ≡ Less) (λ y. ord y ≡ Greater) ls i) → line_of ls t ≡ None
  missing i asc position =
      let parts = position (λ (l : TraceLine). order l.line.name t) computes (rises t ls asc) in
      none_there t ls (λ k l at is.
      let less = slice_get_within ls k l at in
      let there = get_or_from_slice_get ls k l l at in
      let equal : order (get_or ls k l).line.name t ≡ Equal =
      ap (λ (x : TraceLine). order x.line.name t) there ∙ (ap (λ x. order x t) is ∙ self_equal t) in
      dite (dec_le i k)
      (λ up. not_greater (sym (parts.1 k l up less) ∙ equal))
      (λ down. not_less (sym (parts.0 k l (omega arith) (omega (arith, down))) ∙ equal)))
    where
      not_greater : Greater ≡ Equal → ⊥
      not_greater e = absurd (cc)

      not_less : Less ≡ Equal → ⊥
      not_less e = absurd (cc)

-- numbers of elements by their names, with one element more in front
pub entered_more : {A : Type 0} (names : A → List Name) (xs : List A) (n k : ℕ) (x : A)
    (m more : NameMap ℕ) → drop n xs ≡ x ∷ drop k xs → n + 1 ≡ k
    → ((q : Name) → number_in m q ≡ position_from (λ a. has q (names a)) k (drop k xs))
    → ((q : Name) → number_in more q ≡ cond (has q (names x)) (Some n) (number_in m q))
    → (q : Name) → number_in more q ≡ position_from (λ a. has q (names a)) n (drop n xs)
entered_more names xs n k x m more first next old is q =
    is q ∙ ap (λ o. cond (has q (names x)) (Some n) o) (old q)
    ∙ ap (λ j. cond (has q (names x)) (Some n) (position_from (λ a. has q (names a)) j (drop k xs))) (sym next)
    ∙ sym (ap (position_from (λ a. has q (names a)) n) first)

-- no number yet
pub none_entered : {A : Type 0} (p : A → Bool) (n : ℕ) (xs : List A) → length xs ≤ n
    → position_from p n (drop n xs) ≡ None
none_entered p n xs past = ap (position_from p n) (drop_all n xs past)
