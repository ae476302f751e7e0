-- Histories have one outcome: a list in name order is determined by its elements.
use Rattle.std.proofs.Common.{◌≡◌, inl, inr, List, [], ◌∷◌, map, refl, sym, ◌∙◌, subst}
use Rattle.std.specs.List.{AllByRecursion}
use Rattle.std.specs.List.Sorted.{IsStrictlySortedBy}
use Rattle.std.specs.Cmp.Lexicographic.{nat_list_cmp_total}
use Rattle.std.specs.declared.cmp.Ordering.TheVariants.{Less}
use Rattle.tj_base.specs.ForkOrder.{Name}
use Rattle.tj_body.specs.Points.{IsIn}
use Rattle.tj_body.specs.declared.point.Point.{Point}
use Rattle.tj_mean.specs.Outcomes.{IsOutcomeOf, first_task, Ascend}
use Rattle.tj_mean.specs.declared.outcome.Outcome.{Outcome}
use Rattle.tj_mean.specs.declared.stopped.Stopped.{Stopped}
use Rattle.tj_mean.proofs.Outcomes.ToldOutcomes.{same_told}
use Rattle.tj_mean.specs.OutcomeLaws.{HasOneOutcome}
use Rattle.tj_mean.specs.declared.outcome.TaskLine.{TaskLine}
use Rattle.tj_mean.proofs.Lists.NameOrder.{order, in_permuted, in_unpermuted}
use Rattle.tj_mean.proofs.Outcomes.Indexes.{not_less}

module _ {A : Type 0} (key : A → Name) where
  later : (x : A) (ys : List A) → AllByRecursion (λ z. order (key x) z ≡ Less) (map key ys) → (y : A) → IsIn y ys
      → order (key x) (key y) ≡ Less
  later x [] h y i = absurd i
  later x (z ∷ zs) h y (inl e) = subst (λ w. order (key x) (key w) ≡ Less) (sym e) h.0
  later x (z ∷ zs) h y (inr i) = later x zs h.1 y i

  -- neither of two names comes before the other
  one_way : (x y : A) → order (key x) (key y) ≡ Less → order (key y) (key x) ≡ Less → ⊥
  one_way x y a b = not_less (key x) (nat_list_cmp_total.trans (key x) (key y) (key x) a b)

  same_first : (x y : A) (xs ys : List A) → AllByRecursion (λ z. order (key x) z ≡ Less) (map key xs)
      → AllByRecursion (λ z. order (key y) z ≡ Less) (map key ys) → IsIn x (y ∷ ys) → IsIn y (x ∷ xs) → x ≡ y
  same_first x y xs ys h g (inl e) j = e
  same_first x y xs ys h g (inr i) (inl e) = sym e
  same_first x y xs ys h g (inr i) (inr j) = absurd (one_way x y (later x xs h y j) (later y ys g x i))

  -- an element after the first isn't the first
  in_rest : (x y z : A) (xs ys : List A) → x ≡ y → AllByRecursion (λ w. order (key x) w ≡ Less) (map key xs)
      → IsIn z xs → IsIn z (y ∷ ys) → IsIn z ys
  in_rest x y z xs ys e h i (inr j) = j
  in_rest x y z xs ys e h i (inl j) =
      absurd (not_less (key x) (subst (λ w. order (key x) (key w) ≡ Less) (j ∙ sym e) (later x xs h z i)))

  -- lists in order with the same elements are equal
  pub same_in_order : (xs ys : List A) → Ascend (map key xs) → Ascend (map key ys)
      → ((z : A) → IsIn z xs → IsIn z ys) → ((z : A) → IsIn z ys → IsIn z xs) → xs ≡ ys
  unfolding IsStrictlySortedBy
  same_in_order [] [] a b f g = refl
  same_in_order [] (y ∷ ys) a b f g = absurd (g y (inl refl))
  same_in_order (x ∷ xs) [] a b f g = absurd (f x (inl refl))
  same_in_order (x ∷ xs) (y ∷ ys) a b f g =
      let e = same_first x y xs ys a.0 b.0 (f x (inl refl)) (g y (inl refl)) in
      let r = same_in_order xs ys a.1 b.1 (λ z i. in_rest x y z xs ys e a.0 i (f z (inr i)))
      (λ z i. in_rest y x z ys xs (sym e) b.0 i (g z (inr i))) in
      λ i. e i ∷ r i

-- two outcomes of the same tasks have the same lines and the same cycles
outcome_one : (ss : List Stopped) (a b : Outcome) → IsOutcomeOf ss a → IsOutcomeOf ss b → a ≡ b
outcome_one ss a b x y = λ i. record { lines = lines i; cycles = cycles i } where
  told : List TaskLine
  told = map (λ (s : Stopped). s.line) ss

  lines : a.lines ≡ b.lines
  lines = same_in_order (λ (l : TaskLine). l.name) a.lines b.lines x.lines_in_order y.lines_in_order
      (λ l i. in_unpermuted told b.lines y.lines l (in_permuted told a.lines x.lines l i))
      (λ l i. in_unpermuted told a.lines x.lines l (in_permuted told b.lines y.lines l i))

  cycles : a.cycles ≡ b.cycles
  cycles = same_in_order first_task a.cycles b.cycles x.cycles.1 y.cycles.1
      (λ c i. (y.cycles.0 c).1 ((x.cycles.0 c).0 i)) (λ c i. (x.cycles.0 c).1 ((y.cycles.0 c).0 i))

-- and so do those of the same histories
pub has_one_outcome : {B : Type 0} (ps : List (Point B)) → HasOneOutcome ps
has_one_outcome ps a b (ss, t, x) (us, u, y) =
    let same_list : ss ≡ us = same_told ss us (sym t ∙ u) in
    outcome_one us a b (subst (λ l. IsOutcomeOf l a) same_list x) y
