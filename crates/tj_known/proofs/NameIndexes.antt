-- The index of a name among lines whose names ascend, as a search finds it.
use Rattle.std.proofs.Common.{◌≡◌, ℕ, zero, suc, ◌<◌, ◌≤◌, List, [], ◌∷◌, Some, length, get_or, Less, Equal, Greater}
use Rattle.std.proofs.Common.{Ordering, refl, sym, ap, ◌∙◌, arith}
use Rattle.std.specs.List.{AllByRecursion}
use Rattle.std.specs.List.Sorted.{IsNonDecreasingBy, IsPartitionPoint, IsStrictlySortedBy}
use Rattle.std.specs.Cmp.Lexicographic.{slice_cmp, texts_ties, nat_list_cmp_total}
use Rattle.std.specs.Ordering.{nat_cmp, is_eq, ordering_index, ordering_reverse}
use Rattle.std.specs.Fn.{Called, ComputesKey}
use Rattle.std.proofs.lemmas.Fn.{always_returns_same}
use Rattle.std.proofs.lemmas.Option.{get_or_from_slice_get}
use denote.Ref.{Bor}
use denote.Param.Members.{Mut}
use native.Mathlib.Decide.{dec_le}
use mathlib.Core.Logic.{dite}
use Rattle.tj_base.specs.ForkOrder.{Name}
use Rattle.tj_mean.specs.Outcomes.{Ascend}
use Rattle.tj_mean.specs.ActLines.{names_of}
use Rattle.tj_mean.specs.declared.act.ActLine.{ActLine}
use Rattle.tj_body.specs.Points.{IsIn}
use Rattle.tj_body.proofs.Counts.{same_is}
use Rattle.tj_mean.proofs.Lists.Elements.{get_in, get_less, get_there}
use Rattle.tj_mean.proofs.NotedActs.LineIndexes.{line_at, name_at}
use Rattle.tj_known.specs.Inner.Steps.{HasName}

abbrev order : Name → Name → Ordering
order x y = slice_cmp nat_cmp x y

-- no answer stands above the third
top : (o : Ordering) → ordering_index o ≤ 2
top Less = omega arith
top o = omega arith

-- a name that comes first compares no higher
no_higher : (x y t : Name) → order x y ≡ Less → ordering_index (order x t) ≤ ordering_index (order y t)
no_higher x y t less = by (order y t) refl where
  by : (o : Ordering) → order y t ≡ o → ordering_index (order x t) ≤ ordering_index (order y t)
  by Less e =
      let first = ap ordering_index (nat_list_cmp_total.trans x y t less e) in
      let zero_is : ordering_index (order x t) ≡ 0 = first in omega arith
  by Equal e =
      let same : order x t ≡ order x y =
      nat_list_cmp_total.antisymm x t
      ∙ (ap ordering_reverse (sym (nat_list_cmp_total.congr y t x e)) ∙ sym (nat_list_cmp_total.antisymm x y)) in
      let zero_is : ordering_index (order x t) ≡ 0 = ap ordering_index (same ∙ less) in omega arith
  by Greater e =
      let two_is : ordering_index (order y t) ≡ 2 = ap ordering_index e in
      let high = top (order x t) in omega arith

first_no_higher : (x t : Name) (ls : List ActLine)
    → AllByRecursion (λ y. order x y ≡ Less) (names_of ls) → (j : ℕ) (d : ActLine) → j < length ls
    → ordering_index (order x t) ≤ ordering_index (order (get_or ls j d).name t)
first_no_higher x t [] all j d less = absurd (omega arith)
first_no_higher x t (l ∷ ls) all zero d less = no_higher x l.name t all.0
first_no_higher x t (l ∷ ls) all (suc j) d less = first_no_higher x t ls all.1 j d (omega arith)

-- names that ascend compare no lower, the later they stand
pub rises : (t : Name) (ls : List ActLine) → Ascend (names_of ls)
    → IsNonDecreasingBy (λ (l : ActLine). ordering_index (order l.name t)) ls
unfolding IsStrictlySortedBy
rises t [] asc i j d up less = absurd (omega arith)
rises t (l ∷ ls) asc zero zero d up less = omega arith
rises t (l ∷ ls) asc zero (suc j) d up less = first_no_higher l.name t ls asc.0 j d (omega arith)
rises t (l ∷ ls) asc (suc i) zero d up less = absurd (omega arith)
rises t (l ∷ ls) asc (suc i) (suc j) d up less = rises t ls asc.1 i j d (omega arith) (omega arith)

-- a name compares equal to itself
self_equal : (t : Name) → order t t ≡ Equal
self_equal t = by (order t t) (nat_list_cmp_total.antisymm t t) where
  by : (o : Ordering) → o ≡ ordering_reverse o → o ≡ Equal
  by Equal e = refl
  by o e = absurd (cc)

module _ {F : Type 0} {g : Mut F (Bor ActLine × Unit {0}) Ordering} {f : F} (ls : List ActLine) (t : Name)
    (calls : (a : Bor ActLine × Unit {0}) (r : Ordering) (f' : F) → Called g f a r f'
    → (r ≡ order a.0.now.name t) × (f' ≡ f)) where
  -- the closure compares a line's name with this one
  computes : ComputesKey g (λ (l : ActLine). order l.name t) f
  computes = always_returns_same g (λ a r. r ≡ order a.0.now.name t) f calls

  -- what a search finds is the index of the name
  pub found : (i : ℕ) → i < length ls
      → ((ord : ActLine → Ordering) → ComputesKey g ord f → (d : ActLine) → ord (get_or ls i d) ≡ Equal)
      → HasName ls i t
  found i less position =
      let l = get_there ls i less in
      let equal = position (λ (l : ActLine). order l.name t) computes l.0 in
      let is = get_or_from_slice_get ls i l.0 l.0 l.1 in
      let same : l.0.name ≡ t = same_is l.0.name t (texts_ties l.0.name t
      ∙ ap is_eq (sym (ap (λ (x : ActLine). order x.name t) is) ∙ equal)) in
      name_at ls i l.0 l.1 ∙ ap Some same

  -- and a search for a name that is there finds one
  pub never_missing : (i : ℕ) → Ascend (names_of ls) → IsIn t (names_of ls)
      → ((ord : ActLine → Ordering) → ComputesKey g ord f
      → IsNonDecreasingBy (λ (l : ActLine). ordering_index (ord l)) ls
      → IsPartitionPoint (λ y. ord y ≡ Less) (λ y. ord y ≡ Greater) ls i) → ⊥
  never_missing i asc is position =
      let parts = position (λ (l : ActLine). order l.name t) computes (rises t ls asc) in
      let k = get_in (names_of ls) t is in
      let l = line_at ls k.0 t k.1 in
      let less = get_less ls k.0 l.0 l.1 in
      let at = get_or_from_slice_get ls k.0 l.0 l.0 l.1 in
      let equal : order (get_or ls k.0 l.0).name t ≡ Equal =
      ap (λ (x : ActLine). order x.name t) at ∙ (ap (λ x. order x t) l.2 ∙ self_equal t) in
      dite (dec_le i k.0)
      (λ up. not_greater (sym (parts.1 k.0 l.0 up less) ∙ equal))
      (λ down. not_less (sym (parts.0 k.0 l.0 (omega arith) (omega (arith, down))) ∙ equal))
    where
      not_greater : Greater ≡ Equal → ⊥
      not_greater e = absurd (cc)

      not_less : Less ≡ Equal → ⊥
      not_less e = absurd (cc)
