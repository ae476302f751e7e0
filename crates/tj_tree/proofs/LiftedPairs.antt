-- Two tasks that a walk has looked at, with the two that it has come to from them: which is before, and at what cost.
use Rattle.std.proofs.Common.{◌≡◌, ◌≢◌, ℕ, ◌+◌, ◌*◌, ◌^◌, ◌<◌, ◌≤◌, ◌∙◌, true, ap, sym, min, nat_lt, arith}
use Rattle.std.specs.Prelude.{◌↔◌}
use Rattle.tj_tree.specs.declared.node.Node.{Node}
use Rattle.tj_tree.specs.declared.node.NodeId.{NodeId}
use Rattle.tj_tree.specs.declared.node.TaskNode.{TaskNode}
use Rattle.tj_tree.specs.Forks.{IsEarlier, order_of}
use Rattle.tj_tree.specs.Nodes.{InEachTree, node_of}
use Rattle.tj_tree.specs.Walk.{GoesOn, TakesFewSteps}
use Rattle.tj_tree.specs.Inner.Moves.{IsKnown, IsAtOrAbove}
use Rattle.tj_tree.proofs.Skew.{cost_of_parts}
use Rattle.tj_tree.proofs.Walks.{above_trans}
use Rattle.tj_tree.proofs.Readings.{InEachTree_on, order-same, order-apart}

-- the tasks p and q are shown, and so are x at or above p and y at or above q
pub record AreSeen (s : ℕ → Node → Type 0) (p q : ℕ) (a b x y : TaskNode) : Type 0 where
  pub task_a : a.task.0 ≡ p
  pub task_b : b.task.0 ≡ q
  pub here_a : s a.task.0 a.node
  pub here_b : s b.task.0 b.node
  pub here_x : s x.task.0 x.node
  pub here_y : s y.task.0 y.node
  pub above_a : InEachTree s (λ fs. IsAtOrAbove fs x.task.0 a.task.0)
  pub above_b : InEachTree s (λ fs. IsAtOrAbove fs y.task.0 b.task.0)

-- four looks or walks, one after the other: at p, at q, up from p, up from q
module _ {s₁ : ℕ → Node → Type 0} {m₁ : ℕ → Type 0} {s₂ : ℕ → Node → Type 0} {m₂ : ℕ → Type 0}
    {s₃ : ℕ → Node → Type 0} {m₃ : ℕ → Type 0} {s₄ : ℕ → Node → Type 0} {m₄ : ℕ → Type 0} {p q : NodeId}
    {a b x y : TaskNode} (task_a : a.task ≡ p) (task_b : b.task ≡ q) (known_a : IsKnown s₁ m₁ a)
    (on₂ : GoesOn s₁ m₁ s₂ m₂) (known_b : IsKnown s₂ m₂ b) (on₃ : GoesOn s₂ m₂ s₃ m₃) (known_x : IsKnown s₃ m₃ x)
    (above_a : InEachTree s₃ (λ fs. IsAtOrAbove fs x.task.0 a.task.0)) (on₄ : GoesOn s₃ m₃ s₄ m₄)
    (known_y : IsKnown s₄ m₄ y) (above_b : InEachTree s₄ (λ fs. IsAtOrAbove fs y.task.0 b.task.0)) where
  pub seen_lifted : AreSeen s₄ p.0 q.0 a b x y
  seen_lifted = record {
    task_a = ap (λ (task : NodeId). task.0) task_a;
    task_b = ap (λ (task : NodeId). task.0) task_b;
    here_a = on₄.kept a.task.0 a.node (on₃.kept a.task.0 a.node (on₂.kept a.task.0 a.node known_a.here));
    here_b = on₄.kept b.task.0 b.node (on₃.kept b.task.0 b.node known_b.here);
    here_x = on₄.kept x.task.0 x.node known_x.here;
    here_y = known_y.here;
    above_a = InEachTree_on s₃ m₃ s₄ m₄ (λ fs. IsAtOrAbove fs x.task.0 a.task.0) on₄ above_a;
    above_b = above_b;
  }

-- a walk up from both of what was come to
module _ {s : ℕ → Node → Type 0} {m : ℕ → Type 0} {s' : ℕ → Node → Type 0} {m' : ℕ → Type 0} {p q : ℕ}
    {a b x y x' y' : TaskNode} (seen : AreSeen s p q a b x y) (on : GoesOn s m s' m') (known_x : IsKnown s' m' x')
    (known_y : IsKnown s' m' y') (above_x : InEachTree s' (λ fs. IsAtOrAbove fs x'.task.0 x.task.0))
    (above_y : InEachTree s' (λ fs. IsAtOrAbove fs y'.task.0 y.task.0)) where
  pub seen_parted : AreSeen s' p q a b x' y'
  seen_parted =
      let above_a = InEachTree_on s m s' m' (λ fs. IsAtOrAbove fs x.task.0 a.task.0) on seen.above_a in
      let above_b = InEachTree_on s m s' m' (λ fs. IsAtOrAbove fs y.task.0 b.task.0) on seen.above_b in
      record {
        task_a = seen.task_a;
        task_b = seen.task_b;
        here_a = on.kept a.task.0 a.node seen.here_a;
        here_b = on.kept b.task.0 b.node seen.here_b;
        here_x = known_x.here;
        here_y = known_y.here;
        above_a = λ fs h has. above_trans fs x'.task.0 x.task.0 a.task.0 (above_x fs h has) (above_a fs h has);
        above_b = λ fs h has. above_trans fs y'.task.0 y.task.0 b.task.0 (above_y fs h has) (above_b fs h has);
      }

module _ {s : ℕ → Node → Type 0} {p q : ℕ} {a b x y : TaskNode} (seen : AreSeen s p q a b x y) where
  pub order_at_one : x.task.0 ≡ y.task.0 → x.node.depth ≡ min a.node.depth b.node.depth
      → InEachTree s (λ fs. (nat_lt a.node.depth b.node.depth ≡ true) ↔ IsEarlier (order_of fs) p q)
  order_at_one = order-same s a b x y p q seen.task_a seen.task_b seen.here_a seen.here_b seen.here_x seen.here_y
      seen.above_a seen.above_b

  pub order_at_two : x.task.0 ≢ y.task.0 → x.node.depth ≡ y.node.depth → x.node.parent.0 ≡ y.node.parent.0
      → InEachTree s (λ fs. (nat_lt y.node.kid x.node.kid ≡ true) ↔ IsEarlier (order_of fs) p q)
  order_at_two = order-apart s a b x y p q seen.task_a seen.task_b seen.here_a seen.here_b seen.here_x seen.here_y
      seen.above_a seen.above_b

  depth_p : InEachTree s (λ fs. (node_of fs p).depth ≡ a.node.depth)
  depth_p fs h has = ap (λ n. (node_of fs n).depth) (sym seen.task_a)
      ∙ ap (λ (node : Node). node.depth) (has a.task.0 a.node seen.here_a).1

  depth_q : InEachTree s (λ fs. (node_of fs q).depth ≡ b.node.depth)
  depth_q fs h has = ap (λ n. (node_of fs n).depth) (sym seen.task_b)
      ∙ ap (λ (node : Node). node.depth) (has b.task.0 b.node seen.here_b).1

  -- two looks, and three walks with so many steps up to t₃, t₄ and t₅
  pub cost_of_walk : (d level t₀ t₁ t₂ t₃ t₄ t₅ : ℕ) → d ≡ min a.node.depth b.node.depth → level ≡ d → t₁ ≡ t₀ + 1
      → t₂ ≡ t₁ + 1 → (a.node.depth ≤ d → t₃ ≡ t₂) → (b.node.depth ≤ d → t₄ ≡ t₃)
      → ((digits : ℕ) → a.node.depth + 1 < 2 ^ digits → t₃ ≤ t₂ + (6 * digits + 2))
      → ((digits : ℕ) → b.node.depth + 1 < 2 ^ digits → t₄ ≤ t₃ + (6 * digits + 2))
      → ((digits : ℕ) → level + 1 < 2 ^ digits → t₅ ≤ t₄ + (6 * digits + 2))
      → InEachTree s (λ fs. TakesFewSteps fs p q t₀ t₅)
  cost_of_walk d level t₀ t₁ t₂ t₃ t₄ t₅ least flat first second free_a free_b cost_a cost_b cost fs h has digits few =
      let is_p = depth_p fs h has in
      let is_q = depth_q fs h has in
      let few_a : a.node.depth + 1 < 2 ^ digits = omega (arith, is_p, is_q, few) in
      let few_b : b.node.depth + 1 < 2 ^ digits = omega (arith, is_p, is_q, few) in
      let few_x : level + 1 < 2 ^ digits = omega (arith, few_a, few_b, flat, least) in
      let parts = cost_of_parts a.node.depth b.node.depth d t₂ t₃ t₄ t₅ digits least free_a free_b
      (cost_a digits few_a) (cost_b digits few_b) (cost digits few_x) in
      omega (arith, parts, first, second)
