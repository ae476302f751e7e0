-- A walk from two tasks up to two children of one task, over any nodes that are shown.
use Rattle.std.proofs.Common.{◌≡◌, ◌≢◌, ℕ, ◌+◌, ◌-◌, ◌*◌, ◌^◌, ◌<◌, ◌≤◌, ◌∙◌, eqb, not, arith}
use Rattle.tj_tree.specs.declared.node.Node.{Node}
use Rattle.tj_tree.specs.declared.node.NodeId.{NodeId}
use Rattle.tj_tree.specs.declared.node.TaskNode.{TaskNode}
use Rattle.tj_tree.specs.Nodes.{ArePartOfTree, InEachTree, move_from}
use Rattle.tj_tree.specs.Walk.{GoesOn}
use Rattle.tj_tree.specs.Inner.Moves.{IsKnown, IsAtOrAbove}
use Rattle.tj_tree.proofs.Skew.{ranks, moves, moves-ranks}
use Rattle.tj_tree.proofs.Walks.{above_trans, floor_of}
use Rattle.tj_tree.proofs.Readings.{GoesOn_trans, IsKnown_on, InEachTree_on, RaisesBoth, RaisesBoth-up}
use Rattle.tj_tree.proofs.Lifts.{above_itself}

-- from a and b the walk has come to two tasks of one depth that are apart; its steps went from t to t'
pub record ArePair (s : ℕ → Node → Type 0) (m : ℕ → Type 0) (a b x y : TaskNode) (t t' : ℕ) : Type 0 where
  pub tree : ArePartOfTree s
  pub first : IsKnown s m x
  pub second : IsKnown s m y
  pub level : x.node.depth ≡ y.node.depth
  pub apart : x.task.0 ≢ y.task.0
  pub above_a : InEachTree s (λ fs. IsAtOrAbove fs x.task.0 a.task.0)
  pub above_b : InEachTree s (λ fs. IsAtOrAbove fs y.task.0 b.task.0)
  pub cost : InEachTree s (λ fs. let floor = floor_of fs a.task.0 b.task.0 in
      t' + 2 * moves (ranks x.node.depth) (x.node.depth - floor)
      ≤ t + 2 * moves (ranks a.node.depth) (a.node.depth - floor))

pub pair_itself : (s : ℕ → Node → Type 0) (m : ℕ → Type 0) (a b : TaskNode) (t : ℕ) → ArePartOfTree s
    → IsKnown s m a → IsKnown s m b → a.node.depth ≡ b.node.depth → a.task.0 ≢ b.task.0 → ArePair s m a b a b t t
pair_itself s m a b t tree known known' level apart = record {
  tree = tree;
  first = known;
  second = known';
  level = level;
  apart = apart;
  above_a = above_itself s a known.here;
  above_b = above_itself s b known'.here;
  cost = λ fs h has. omega arith;
}

pub pair_cost : (s : ℕ → Node → Type 0) (m : ℕ → Type 0) (a b x y : TaskNode) (t t' : ℕ)
    → ArePair s m a b x y t t' → (digits : ℕ) → a.node.depth + 1 < 2 ^ digits → t' ≤ t + (6 * digits + 2)
pair_cost s m a b x y t t' pair digits few =
    let floor = floor_of pair.tree.0 a.task.0 b.task.0 in
    let spent = pair.cost pair.tree.0 pair.tree.1.0 pair.tree.1.1 in
    omega (arith, moves-ranks digits a.node.depth (a.node.depth - floor) few, spent)

-- one move more of both, by a look each
module _ (s : ℕ → Node → Type 0) (m : ℕ → Type 0) (s' : ℕ → Node → Type 0) (m' : ℕ → Type 0) (s'' : ℕ → Node → Type 0)
    (m'' : ℕ → Type 0) (a b x y x' y' : TaskNode) (t₀ t t' t'' : ℕ) (pair : ArePair s m a b x y t₀ t)
    (on : GoesOn s m s' m') (on' : GoesOn s' m' s'' m'') (known : IsKnown s' m' x') (known' : IsKnown s'' m'' y')
    (parents : x.node.parent.0 ≢ y.node.parent.0) (to to' : NodeId) (task : x'.task ≡ to) (task' : y'.task ≡ to')
    (led : to ≡ move_from x.node (not (eqb x.node.jump.0 y.node.jump.0)))
    (led' : to' ≡ move_from y.node (not (eqb x.node.jump.0 y.node.jump.0))) (step : t' ≡ t + 1) (step' : t'' ≡ t' + 1)
  where
    both_on : GoesOn s m s'' m''
    both_on = GoesOn_trans s m s' m' s'' m'' on on'

    above_x : InEachTree s'' (λ fs. IsAtOrAbove fs x.task.0 a.task.0)
    above_x = InEachTree_on s m s'' m'' (λ fs. IsAtOrAbove fs x.task.0 a.task.0) both_on pair.above_a

    above_y : InEachTree s'' (λ fs. IsAtOrAbove fs y.task.0 b.task.0)
    above_y = InEachTree_on s m s'' m'' (λ fs. IsAtOrAbove fs y.task.0 b.task.0) both_on pair.above_b

    raises : InEachTree s'' (λ fs. RaisesBoth fs (floor_of fs a.task.0 b.task.0) x y x' y')
    raises = RaisesBoth-up s'' x y x' y' a.task.0 b.task.0 (both_on.kept x.task.0 x.node pair.first.here)
        (both_on.kept y.task.0 y.node pair.second.here) (on'.kept x'.task.0 x'.node known.here) known'.here pair.level
        pair.apart parents (task ∙ led) (task' ∙ led') above_x above_y

    some_move : let tree = both_on.tree pair.tree in RaisesBoth tree.0 (floor_of tree.0 a.task.0 b.task.0) x y x' y'
    some_move = let tree = both_on.tree pair.tree in raises tree.0 tree.1.0 tree.1.1

    pub pair_on : ArePair s'' m'' a b x' y' t₀ t'' × (x'.node.depth < x.node.depth)
    pair_on = (
      record {
        tree = both_on.tree pair.tree;
        first = IsKnown_on s' m' s'' m'' x' on' known;
        second = known';
        level = some_move.level;
        apart = some_move.apart;
        above_a = λ fs h has. above_trans fs x'.task.0 x.task.0 a.task.0 (raises fs h has).first.above
            (above_x fs h has);
        above_b = λ fs h has. above_trans fs y'.task.0 y.task.0 b.task.0 (raises fs h has).second.above
            (above_y fs h has);
        cost = λ fs h has.
            let spent = pair.cost fs h (λ n node k. has n node (both_on.kept n node k)) in
            omega (arith, (raises fs h has).first.saves, spent, step, step');
      },
      some_move.first.shallower,
    )
