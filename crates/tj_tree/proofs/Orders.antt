-- The list order of a history is the fork order on the names of its tasks.
use Rattle.std.proofs.Common.{◌≡◌, ℕ, suc, zero, ◌<◌, Bool, true, false, eqb, ◌||◌, ◌⊎◌, [], ◌∷◌, ◌++◌, length, refl, sym, ap, ◌∙◌, subst, inl, inr, arith}
use Rattle.std.specs.Prelude.{◌↔◌}
use Rattle.std.proofs.lemmas.Bool.{cases_eq}
use Rattle.std.proofs.lemmas.Bool.Decides.{nat_tests}
use Rattle.std.proofs.lemmas.List.{length-append, append_assoc}
use Rattle.tj_base.specs.ForkOrder.{Name, before}
use Rattle.tj_tree.specs.Forks.{Fork, Forks, HasTask, HasKid, IsNext, IsHistory, IsEarlier, insert_after, order_of, name_of}
use Rattle.tj_tree.specs.Nodes.{node_of}
use Rattle.tj_tree.proofs.Lists.{has, earlier, AreApart, has-insert_after_new, has-insert_after_other, AreApart-insert_after, earlier-insert_after_others, earlier-insert_after_first, earlier-insert_after_last, earlier-insert_after_self, earlier_tells}
use Rattle.tj_base.proofs.Orders.{before-self}
use Rattle.tj_tree.proofs.Names.{before-last_child_first, before-last_child_last, before-child}
use Rattle.tj_tree.proofs.Trees.{name_of-older, name_of-child, IsChild-of, HasKid-of, names_apart, root_name, snoc_apart}

-- the order has the tasks that are there
pub has-order : (fs : Forks) → IsHistory fs → (n : ℕ) → HasTask fs n → has (order_of fs) n ≡ true
has-order [] h n there = grind (arith, nat_tests, there)
has-order (fork ∷ fs) h n (inl same) =
    subst (λ k. has (insert_after fork.parent fork.child (order_of fs)) k ≡ true) (sym same)
    (has-insert_after_new fork.parent fork.child (order_of fs) (has-order fs h.1 fork.parent h.0.parent_there))
has-order (fork ∷ fs) h n (inr there) =
    let below = h.0.newest n there in
    has-insert_after_other fork.parent fork.child n (order_of fs) (omega arith) ∙ has-order fs h.1 n there

-- and no other
pub HasTask-from_order : (fs : Forks) (n : ℕ) → has (order_of fs) n ≡ true → HasTask fs n
HasTask-from_order [] n h = grind (arith, nat_tests)
HasTask-from_order (fork ∷ fs) n h =
    elim (cases_eq n fork.child) [
      | inl same ↦ inl same
      | inr other ↦ inr (HasTask-from_order fs n
          (sym (has-insert_after_other fork.parent fork.child n (order_of fs) other) ∙ h))
    ]

test_false : (b : Bool) → (b ≡ true → ⊥) → b ≡ false
test_false true h = absurd (h refl)
test_false false h = refl

pub order-lacks_next : (fork : Fork) (fs : Forks) → IsNext fork fs → has (order_of fs) fork.child ≡ false
order-lacks_next fork fs next =
    test_false _ (λ h. let below = next.newest fork.child (HasTask-from_order fs fork.child h) in omega arith)

pub AreApart-order : (fs : Forks) → IsHistory fs → AreApart (order_of fs)
AreApart-order [] h = (refl, tt)
AreApart-order (fork ∷ fs) h = AreApart-insert_after fork.parent fork.child (order_of fs)
    (order-lacks_next fork fs h.0) (AreApart-order fs h.1)

snoc_cases : (xs : Name) → (xs ≡ []) ⊎ ((ys : Name) × ((y : ℕ) × (xs ≡ ys ++ y ∷ [])))
snoc_cases [] = inl refl
snoc_cases (x ∷ xs) =
    elim (snoc_cases xs) [
      | inl none ↦ inr ([], (x, ap (λ (ys : Name). x ∷ ys) none))
      | inr more ↦ inr (x ∷ more.0, (more.1.0, ap (λ (ys : Name). x ∷ ys) more.1.1))
    ]

not_longer : (xs rest : Name) (j : ℕ) → [] ≡ xs ++ j ∷ rest → ⊥
not_longer [] rest j e = cc
not_longer (x ∷ xs) rest j e = cc

-- a name that goes on from a task's goes on with the kid number of one of its children
kid_within : (k : ℕ) (fs : Forks) → IsHistory fs → (p b : ℕ) (j : ℕ) (rest : Name) → length rest < k → HasTask fs p
    → HasTask fs b → name_of fs b ≡ name_of fs p ++ j ∷ rest → HasKid fs p j
kid_within zero fs h p b j rest l at there e = absurd (omega arith)
kid_within (suc k) fs h p b j rest l at there e =
    elim (cases_eq b 0) [
      | inl root ↦ absurd (not_longer _ _ _ (sym (root_name fs h) ∙ ap (name_of fs) (sym root) ∙ e))
      | inr some ↦
          let is = IsChild-of fs h b there some in
          elim (snoc_cases rest) [
            | inl none ↦
                let parts = snoc_apart (name_of fs (node_of fs b).parent.0) (name_of fs p) (node_of fs b).kid j
                (sym is.named ∙ e ∙ ap (λ (r : Name). name_of fs p ++ j ∷ r) none) in
                let parent = names_apart fs h (node_of fs b).parent.0 p is.parent_there at parts.0 in
                subst (λ q. HasKid fs q j) parent (subst (HasKid fs (node_of fs b).parent.0) parts.1
                (HasKid-of fs h b there some))
            | inr more ↦
                let split : name_of fs p ++ j ∷ rest ≡ (name_of fs p ++ j ∷ more.0) ++ more.1.0 ∷ [] = ap
                (λ (r : Name). name_of fs p ++ j ∷ r) more.1.1
                ∙ sym (append_assoc (name_of fs p) (j ∷ more.0) (more.1.0 ∷ [])) in
                let parts = snoc_apart (name_of fs (node_of fs b).parent.0) (name_of fs p ++ j ∷ more.0)
                (node_of fs b).kid more.1.0 (sym is.named ∙ e ∙ split) in
                kid_within k fs h p (node_of fs b).parent.0 j more.0
                (omega (arith, ap length more.1.1, length-append more.0 (more.1.0 ∷ []))) at is.parent_there
                parts.0
          ]
    ]

kid_below : (fork : Fork) (fs : Forks) → IsHistory (fork ∷ fs) → (b : ℕ) → HasTask fs b → (j : ℕ) (rest : Name)
    → name_of fs b ≡ name_of fs fork.parent ++ j ∷ rest → j < fork.kid
kid_below fork fs h b there j rest e =
    h.0.last_kid j (kid_within (suc (length rest)) fs h.1 fork.parent b j rest (omega arith) h.0.parent_there there e)

-- the list order is that of the names
pub earlier-order : (fs : Forks) → IsHistory fs → (a b : ℕ) → HasTask fs a → HasTask fs b
    → earlier (order_of fs) a b ≡ before (name_of fs a) (name_of fs b)
earlier-order [] h a b p q = grind (arith, nat_tests, p, q)
earlier-order (fork ∷ fs) h a b (inl p) (inl q) =
    rw (p, q) (earlier-insert_after_self fork.parent fork.child (order_of fs) (order-lacks_next fork fs h.0)
    ∙ sym (before-self (name_of (fork ∷ fs) fork.child)))
earlier-order (fork ∷ fs) h a b (inl p) (inr q) =
    let below = h.0.newest b q in
    rw (p, name_of-child fork fs, name_of-older fork fs b h.0 q)
    (earlier-insert_after_first fork.parent fork.child b (order_of fs)
    (has-order fs h.1 fork.parent h.0.parent_there) (order-lacks_next fork fs h.0) (omega arith)
    ∙ earlier-order fs h.1 fork.parent b h.0.parent_there q
    ∙ sym (before-last_child_first (name_of fs fork.parent) (name_of fs b) fork.kid (kid_below fork fs h b q)))
earlier-order (fork ∷ fs) h a b (inr p) (inl q) =
    let below = h.0.newest a p in
    rw (q, name_of-child fork fs, name_of-older fork fs a h.0 p)
    (earlier-insert_after_last fork.parent fork.child a (order_of fs) (has-order fs h.1 fork.parent h.0.parent_there)
    (order-lacks_next fork fs h.0) (AreApart-order fs h.1) (omega arith)
    ∙ ap (λ r. eqb fork.parent a || r) (earlier-order fs h.1 a fork.parent p h.0.parent_there)
    ∙ elim (cases_eq fork.parent a) [
      | inl same ↦
          let tells : eqb fork.parent a ≡ true = grind (arith, nat_tests, same) in
          rw tells (sym (subst (λ n. before (name_of fs n) (name_of fs fork.parent ++ fork.kid ∷ []) ≡ true) same
          (before-child (name_of fs fork.parent) fork.kid)))
      | inr other ↦
          let tells : eqb fork.parent a ≡ false = grind (arith, nat_tests, other) in
          rw tells (sym (before-last_child_last (name_of fs a) (name_of fs fork.parent) fork.kid
          (λ e. other (sym (names_apart fs h.1 a fork.parent p h.0.parent_there e))) (kid_below fork fs h a p)))
    ])
earlier-order (fork ∷ fs) h a b (inr p) (inr q) =
    let below = h.0.newest a p in
    let below_too = h.0.newest b q in
    rw (name_of-older fork fs a h.0 p, name_of-older fork fs b h.0 q)
    (earlier-insert_after_others fork.parent fork.child a b (order_of fs) (omega arith) (omega arith)
    ∙ earlier-order fs h.1 a b p q)

-- a task stands before another exactly where its name is before the other's
pub IsEarlier-order : (fs : Forks) → IsHistory fs → (a b : ℕ) → HasTask fs a → HasTask fs b → (r : Bool)
    → r ≡ before (name_of fs a) (name_of fs b) → (r ≡ true) ↔ IsEarlier (order_of fs) a b
IsEarlier-order fs h a b p q r e = earlier_tells (order_of fs) a b r (e ∙ sym (earlier-order fs h a b p q))
