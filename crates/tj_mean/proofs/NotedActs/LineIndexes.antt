-- Lines of acts: their indexes, and the acts of a line's task.
use Rattle.std.proofs.Common.{◌≡◌, ℕ, zero, suc, Bool, true, false, cond, List, [], ◌∷◌, Some, Less}
use Rattle.std.proofs.Common.{refl, sym, ap, ◌∙◌, subst, true≢false}
use Rattle.std.specs.Prelude.{slice_get}
use Rattle.std.specs.List.{AllByRecursion}
use Rattle.std.specs.List.Sorted.{IsStrictlySortedBy}
use Rattle.std.specs.Cmp.Lexicographic.{slice_cmp, texts_ties, nat_list_cmp_total}
use Rattle.std.specs.Ordering.{nat_cmp, is_eq, ordering_reverse}
use Rattle.tj_base.specs.ForkOrder.{Name}
use Rattle.tj_body.specs.Names.{same}
use Rattle.tj_body.proofs.Counts.{same_is, same_self}
use Rattle.tj_mean.specs.Outcomes.{Ascend}
use Rattle.tj_mean.specs.ActLines.{acts_of, names_of, HasAct}
use Rattle.tj_mean.specs.declared.act.Act.{Act}
use Rattle.tj_mean.specs.declared.act.ActLine.{ActLine}
use Rattle.tj_mean.proofs.Lists.Elements.{some_is}

-- the line of a task with an index
pub line_at : (lines : List ActLine) (i : ℕ) (t : Name) → slice_get (names_of lines) i ≡ Some t
    → (l : ActLine) × (slice_get lines i ≡ Some l) × (l.name ≡ t)
line_at [] i t h = absurd (cc)
line_at (l ∷ ls) zero t h = (l, refl, some_is l.name t h)
line_at (l ∷ ls) (suc i) t h = line_at ls i t h

-- the task of a line has the line's index
pub name_at : (lines : List ActLine) (i : ℕ) (l : ActLine) → slice_get lines i ≡ Some l
    → slice_get (names_of lines) i ≡ Some l.name
name_at [] i l h = absurd (cc)
name_at (x ∷ xs) zero l h = ap (λ (y : ActLine). Some y.name) (some_is x l h)
name_at (x ∷ xs) (suc i) l h = name_at xs i l h

-- a task that does an act has an index
pub index_of_acting : (lines : List ActLine) (t : Name) (n : ℕ) (a : Act) → HasAct lines t n a
    → (i : ℕ) × slice_get (names_of lines) i ≡ Some t
index_of_acting [] t n a h = absurd (cc)
index_of_acting (l ∷ ls) t n a h = by_same (λ g. index_of_acting ls t n a g) (same t l.name) refl h where
  by_same : (HasAct ls t n a → (i : ℕ) × slice_get (names_of ls) i ≡ Some t) → (b : Bool) → same t l.name ≡ b
      → slice_get (cond b l.acts (acts_of ls t)) n ≡ Some a → (i : ℕ) × slice_get (names_of (l ∷ ls)) i ≡ Some t
  by_same later true e g = (zero, ap Some (sym (same_is t l.name e)))
  by_same later false e g = let r = later g in (suc r.0, r.1)

-- of names that ascend the first isn't one of the others
other_name : (x y : Name) → slice_cmp nat_cmp x y ≡ Less → same y x ≡ false
other_name x y less =
    texts_ties y x ∙ ap is_eq (nat_list_cmp_total.antisymm y x ∙ ap ordering_reverse less)

later_name : (x : Name) (ls : List ActLine) → AllByRecursion (λ y. slice_cmp nat_cmp x y ≡ Less) (names_of ls)
    → (i : ℕ) (l : ActLine) → slice_get ls i ≡ Some l → same l.name x ≡ false
later_name x [] all i l h = absurd (cc)
later_name x (y ∷ ys) all zero l h =
    subst (λ (z : ActLine). same z.name x ≡ false) (some_is y l h) (other_name x y.name all.0)
later_name x (y ∷ ys) all (suc i) l h = later_name x ys all.1 i l h

-- the first name isn't at a later index
not_first : (x : ActLine) (xs : List ActLine)
    → AllByRecursion (λ y. slice_cmp nat_cmp x.name y ≡ Less) (names_of xs) → (t : Name) (j : ℕ)
    → Some x.name ≡ Some t → slice_get (names_of xs) j ≡ Some t → ⊥
not_first x xs all t j h g =
    let l = line_at xs j t g in
    let differs = later_name x.name xs all j l.0 l.1 in
    let is : l.0.name ≡ x.name = l.2 ∙ sym (some_is x.name t h) in
    true≢false (sym (same_self x.name) ∙ ap (λ n. same n x.name) (sym is) ∙ differs)

-- where names ascend, the acts of a line's task are the line's
pub acts_at : (lines : List ActLine) → Ascend (names_of lines) → (i : ℕ) (l : ActLine) → slice_get lines i ≡ Some l
    → acts_of lines l.name ≡ l.acts
unfolding IsStrictlySortedBy
acts_at [] a i l h = absurd (cc)
acts_at (x ∷ xs) a zero l h =
    subst (λ (z : ActLine). acts_of (x ∷ xs) z.name ≡ z.acts) (some_is x l h)
    (ap (λ b. cond b x.acts (acts_of xs x.name)) (same_self x.name))
acts_at (x ∷ xs) a (suc i) l h =
    ap (λ b. cond b x.acts (acts_of xs l.name)) (later_name x.name xs a.0 i l h) ∙ acts_at xs a.1 i l h

-- where names ascend, a name has one index
pub one_index : (lines : List ActLine) → Ascend (names_of lines) → (t : Name) (i j : ℕ)
    → slice_get (names_of lines) i ≡ Some t
    → slice_get (names_of lines) j ≡ Some t → i ≡ j
unfolding IsStrictlySortedBy
one_index [] a t i j h g = absurd (cc)
one_index (x ∷ xs) a t zero zero h g = refl
one_index (x ∷ xs) a t zero (suc j) h g = absurd (not_first x xs a.0 t j h g)
one_index (x ∷ xs) a t (suc i) zero h g = absurd (not_first x xs a.0 t i g h)
one_index (x ∷ xs) a t (suc i) (suc j) h g = ap suc (one_index xs a.1 t i j h g)
