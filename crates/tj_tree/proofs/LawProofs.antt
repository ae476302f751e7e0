-- The laws of the fork order.
use Rattle.std.proofs.Common.{◌≡◌, ◌≢◌, ℕ, true, false, eqb, ◌⊎◌, List, [], ◌∷◌, ◌++◌, refl, sym, ap, ◌∙◌, subst, inl, inr, arith}
use Rattle.std.proofs.lemmas.Bool.{cases_eq}
use Rattle.std.proofs.lemmas.Bool.Decides.{nat_tests}
use Rattle.std.proofs.lemmas.List.{append_assoc}
use Rattle.tj_base.specs.ForkOrder.{Name, before, IsBefore, IsAncestor, IsLaterFork}
use Rattle.tj_base.proofs.Orders.{before_tells}
use Rattle.tj_tree.specs.Forks.{Forks, HasTask, IsHistory, order_of, name_of}
use Rattle.tj_tree.specs.Laws.{LaterForksKeepOrder, NoneIsBeforeItself, OrderIsTransitive, OrderIsTotal, OrderIsThatOfNames, IsInEarlierBranch, NamesTellOrder, LinksLeadToTasks}
use Rattle.tj_tree.proofs.Lists.{has, earlier, AreApart, earlier-insert_after_others, earlier_from_IsEarlier, IsEarlier-from_earlier}
use Rattle.tj_tree.proofs.Trees.{parent_there}
use Rattle.tj_tree.proofs.Walks.{jump_above}
use Rattle.tj_tree.proofs.Orders.{has-order, AreApart-order, IsEarlier-order}

-- tasks stay
HasTask-append : (later forks : Forks) (n : ℕ) → HasTask forks n → HasTask (later ++ forks) n
HasTask-append [] forks n there = there
HasTask-append (fork ∷ later) forks n there = inr (HasTask-append later forks n there)

earlier-append : (later forks : Forks) (a b : ℕ) → IsHistory (later ++ forks) → HasTask forks a → HasTask forks b
    → earlier (order_of (later ++ forks)) a b ≡ earlier (order_of forks) a b
earlier-append [] forks a b h p q = refl
earlier-append (fork ∷ later) forks a b h p q =
    let below_a = h.0.newest a (HasTask-append later forks a p) in
    let below_b = h.0.newest b (HasTask-append later forks b q) in
    earlier-insert_after_others fork.parent fork.child a b (order_of (later ++ forks)) (omega arith) (omega arith)
    ∙ earlier-append later forks a b h.1 p q

pub later_forks_keep_order : LaterForksKeepOrder
later_forks_keep_order later forks a b h p q =
    let same = earlier-append later forks a b h p q in (
      λ e. IsEarlier-from_earlier (order_of forks) a b
          (sym same ∙ earlier_from_IsEarlier (order_of (later ++ forks)) a b e),
      λ e. IsEarlier-from_earlier (order_of (later ++ forks)) a b
          (same ∙ earlier_from_IsEarlier (order_of forks) a b e),
    )

earlier-self : (xs : List ℕ) (a : ℕ) → AreApart xs → earlier xs a a ≡ false
earlier-self [] a apart = refl
earlier-self (x ∷ xs) a apart =
    let rest = earlier-self xs a apart.1 in
    elim (cases_eq x a) [
      | inl same ↦ let none : has xs a ≡ false = subst (λ k. has xs k ≡ false) same apart.0 in
          grind (arith, nat_tests, same, none)
      | inr other ↦ grind (arith, nat_tests, other, rest)
    ]

pub none_is_before_itself : NoneIsBeforeItself
none_is_before_itself forks a h e =
    let yes = earlier_from_IsEarlier (order_of forks) a a e in
    let no = earlier-self (order_of forks) a (AreApart-order forks h) in
    cc

has_second : (xs : List ℕ) (a b : ℕ) → earlier xs a b ≡ true → has xs b ≡ true
has_second [] a b h = cc
has_second (x ∷ xs) a b h = let rest = has_second xs a b in grind (arith, nat_tests, rest)

apart_here : (x b : ℕ) (xs : List ℕ) → has xs x ≡ false → has xs b ≡ true → eqb x b ≡ false
apart_here x b xs none found =
    elim (cases_eq x b) [
      | inl same ↦ let both : has xs b ≡ false = subst (λ k. has xs k ≡ false) same none in absurd (cc)
      | inr other ↦ grind (arith, nat_tests, other)
    ]

earlier_trans : (xs : List ℕ) (a b c : ℕ) → AreApart xs → earlier xs a b ≡ true → earlier xs b c ≡ true
    → earlier xs a c ≡ true
earlier_trans [] a b c apart p q = cc
earlier_trans (x ∷ xs) a b c apart p q =
    let behind : has xs b ≡ true = let rest = has_second xs a b in grind (arith, nat_tests, rest, p) in
    let other = apart_here x b xs apart.0 behind in
    let after : earlier xs b c ≡ true = grind (arith, nat_tests, other, q) in
    let last = has_second xs b c after in
    let rest : earlier xs a b ≡ true → earlier xs a c ≡ true = λ h. earlier_trans xs a b c apart.1 h after in
    grind (arith, nat_tests, p, last, rest)

pub order_is_transitive : OrderIsTransitive
order_is_transitive forks a b c h p q =
    IsEarlier-from_earlier (order_of forks) a c
    (earlier_trans (order_of forks) a b c (AreApart-order forks h)
    (earlier_from_IsEarlier (order_of forks) a b p) (earlier_from_IsEarlier (order_of forks) b c q))

earlier_total : (xs : List ℕ) (a b : ℕ) → a ≢ b → has xs a ≡ true → has xs b ≡ true
    → (earlier xs a b ≡ true) ⊎ (earlier xs b a ≡ true)
earlier_total [] a b ne p q = absurd (cc)
earlier_total (x ∷ xs) a b ne p q =
    elim (cases_eq x a) [
      | inl same ↦ inl (grind (arith, nat_tests, same, ne, q))
      | inr not_a ↦ elim (cases_eq x b) [
        | inl same ↦ inr (grind (arith, nat_tests, same, not_a, p))
        | inr not_b ↦ elim (earlier_total xs a b ne (grind (arith, nat_tests, not_a, p))
            (grind (arith, nat_tests, not_b, q))) [
              | inl e ↦ inl (grind (arith, nat_tests, not_a, e))
              | inr e ↦ inr (grind (arith, nat_tests, not_b, e))
            ]
      ]
    ]

pub order_is_total : OrderIsTotal
order_is_total forks a b h p q ne =
    elim (earlier_total (order_of forks) a b ne (has-order forks h a p) (has-order forks h b q)) [
      | inl e ↦ inl (IsEarlier-from_earlier (order_of forks) a b e)
      | inr e ↦ inr (IsEarlier-from_earlier (order_of forks) b a e)
    ]

pub order_is_that_of_names : OrderIsThatOfNames
order_is_that_of_names forks a b h p q = IsEarlier-order forks h a b p q (before (name_of forks a) (name_of forks b))
    refl

IsInEarlierBranch-later_fork : (a b : Name) → IsLaterFork a b → IsInEarlierBranch a b
IsInEarlierBranch-later_fork a b x = record {
  at_or_above = x.common ++ x.later ∷ [];
  sibling = x.common ++ x.earlier ∷ [];
  a_in = record { rest = x.rest_of_a; goes_on = x.a_is ∙ sym (append_assoc x.common (x.later ∷ []) x.rest_of_a) };
  earlier = record {
    parent = x.common;
    earlier = x.earlier;
    later = x.later;
    sibling_is = refl;
    task_is = refl;
    smaller = x.larger;
  };
  b_in = record { rest = x.rest_of_b; goes_on = x.b_is ∙ sym (append_assoc x.common (x.earlier ∷ []) x.rest_of_b) };
}

IsLaterFork-earlier_branch : (a b : Name) → IsInEarlierBranch a b → IsLaterFork a b
IsLaterFork-earlier_branch a b x = record {
  common = x.earlier.parent;
  later = x.earlier.later;
  earlier = x.earlier.earlier;
  rest_of_a = x.a_in.rest;
  rest_of_b = x.b_in.rest;
  a_is = x.a_in.goes_on ∙ ap (λ (n : Name). n ++ x.a_in.rest) x.earlier.task_is
      ∙ append_assoc x.earlier.parent (x.earlier.later ∷ []) x.a_in.rest;
  b_is = x.b_in.goes_on ∙ ap (λ (n : Name). n ++ x.b_in.rest) x.earlier.sibling_is
      ∙ append_assoc x.earlier.parent (x.earlier.earlier ∷ []) x.b_in.rest;
  larger = x.earlier.smaller;
}

in_branches : (a b : Name) → IsBefore a b → IsAncestor a b ⊎ IsInEarlierBranch a b
in_branches a b (inl x) = inl x
in_branches a b (inr x) = inr (IsInEarlierBranch-later_fork a b x)

from_branches : (a b : Name) → IsAncestor a b ⊎ IsInEarlierBranch a b → IsBefore a b
from_branches a b (inl x) = inl x
from_branches a b (inr x) = inr (IsLaterFork-earlier_branch a b x)

pub names_tell_order : NamesTellOrder
names_tell_order a b =
    let tells = before_tells a b (before a b) refl in
    (λ h. in_branches a b (tells.0 h), λ x. tells.1 (from_branches a b x))

pub links_lead_to_tasks : LinksLeadToTasks
links_lead_to_tasks forks n h there = (parent_there forks h n there, (jump_above forks h n there).there)
