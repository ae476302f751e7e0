-- A walk from one task up to a depth, over any nodes that are shown.
use Rattle.std.proofs.Common.{◌≡◌, ℕ, ◌+◌, ◌-◌, ◌*◌, ◌^◌, ◌<◌, ◌≤◌, List, [], ◌∷◌, ◌++◌, ap, refl, nat_le, arith}
use Rattle.tj_tree.specs.declared.node.Node.{Node}
use Rattle.tj_tree.specs.declared.node.TaskNode.{TaskNode}
use Rattle.tj_tree.specs.Nodes.{ArePartOfTree, InEachTree, move_from, node_of}
use Rattle.tj_tree.specs.Walk.{GoesOn}
use Rattle.tj_tree.specs.Inner.Moves.{IsKnown, IsAtOrAbove}
use Rattle.tj_tree.proofs.Skew.{ranks, moves, moves-ranks}
use Rattle.tj_tree.proofs.Walks.{above_trans}
use Rattle.tj_tree.proofs.Readings.{InEachTree_on, Raises, Raises-higher}

-- nothing was looked at yet
pub goes_itself : (s : ℕ → Node → Type 0) (m : ℕ → Type 0) → GoesOn s m s m
goes_itself s m = record { kept = λ n node h. h; still_may = λ n h. h; tree = λ t. t }

-- a task is at or above itself
pub above_itself : (s : ℕ → Node → Type 0) (p : TaskNode) → s p.task.0 p.node
    → InEachTree s (λ fs. IsAtOrAbove fs p.task.0 p.task.0)
above_itself s p here fs h has = record {
  there = (has p.task.0 p.node here).0;
  rest = [];
  goes_on = nothing _;
}
  where
    nothing : (l : List ℕ) → l ≡ l ++ []
    nothing [] = refl
    nothing (x ∷ l) = ap (λ z. x ∷ z) (nothing l)

-- from a task the walk has come to one at or above it, no higher than the depth; its steps went from t to t'
pub record IsLifted (s : ℕ → Node → Type 0) (m : ℕ → Type 0) (from at : TaskNode) (depth t t' : ℕ) : Type 0 where
  pub tree : ArePartOfTree s
  pub known : IsKnown s m at
  pub deep : depth ≤ at.node.depth
  pub above : InEachTree s (λ fs. IsAtOrAbove fs at.task.0 from.task.0)
  pub up : at.node.depth ≤ from.node.depth
  pub free : from.node.depth ≤ depth → t' ≡ t
  pub cost : t' + 2 * moves (ranks at.node.depth) (at.node.depth - depth)
      ≤ t + 2 * moves (ranks from.node.depth) (from.node.depth - depth)

pub lifted_itself : (s : ℕ → Node → Type 0) (m : ℕ → Type 0) (from : TaskNode) (depth t : ℕ) → ArePartOfTree s
    → IsKnown s m from → depth ≤ from.node.depth → IsLifted s m from from depth t t
lifted_itself s m from depth t tree known deep = record {
  tree = tree;
  known = known;
  deep = deep;
  above = above_itself s from known.here;
  up = omega arith;
  free = λ _. refl;
  cost = omega arith;
}

pub lifted_cost : (s : ℕ → Node → Type 0) (m : ℕ → Type 0) (from at : TaskNode) (depth t t' : ℕ)
    → IsLifted s m from at depth t t' → (digits : ℕ) → from.node.depth + 1 < 2 ^ digits
    → t' ≤ t + (6 * digits + 2)
lifted_cost s m from at depth t t' lifted digits few =
    let spent = lifted.cost in
    omega (arith, moves-ranks digits from.node.depth (from.node.depth - depth) few, spent)

-- one move more, from `at` to a higher task by at most two looks
module _ (s : ℕ → Node → Type 0) (m : ℕ → Type 0) (s' : ℕ → Node → Type 0) (m' : ℕ → Type 0) (from at to : TaskNode)
    (depth t t' t'' : ℕ) (lifted : IsLifted s m from at depth t t') (on : GoesOn s m s' m') (known : IsKnown s' m' to)
    (test : depth < at.node.depth)
    (moved : InEachTree s' (λ fs. to.task ≡ move_from at.node (nat_le depth (node_of fs at.node.jump.0).depth)))
    (cost : t'' ≤ t' + 2) where
  raises : InEachTree s' (λ fs. Raises fs depth at to)
  raises = Raises-higher s' m' at to depth (on.kept at.task.0 at.node lifted.known.here) known.here test moved

  some_move : Raises (on.tree lifted.tree).0 depth at to
  some_move = let tree = on.tree lifted.tree in raises tree.0 tree.1.0 tree.1.1

  pub lifted_on : IsLifted s' m' from to depth t t'' × (to.node.depth < at.node.depth)
  lifted_on =
      let move = some_move in
      let above = InEachTree_on s m s' m' (λ fs. IsAtOrAbove fs at.task.0 from.task.0) on lifted.above in
      let spent = lifted.cost in
      let up = lifted.up in (
        record {
          tree = on.tree lifted.tree;
          known = known;
          deep = move.within;
          above = λ fs h has. above_trans fs to.task.0 at.task.0 from.task.0 (raises fs h has).above (above fs h has);
          up = omega (arith, move.shallower, up);
          free = λ level. absurd (omega (arith, level, up, test));
          cost = omega (arith, move.saves, spent, cost);
        },
        move.shallower,
      )
