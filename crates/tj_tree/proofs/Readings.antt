-- What a reader's looks tell of each tree that has the nodes shown.
use Rattle.std.proofs.Common.{◌≡◌, ◌≢◌, ℕ, ◌-◌, ◌<◌, ◌≤◌, min, Bool, true, not, eqb, nat_le, nat_lt, sym, subst}
use Rattle.tj_tree.specs.declared.node.Node.{Node}
use Rattle.tj_tree.specs.declared.node.TaskNode.{TaskNode}
use Rattle.std.specs.Prelude.{◌↔◌}
use Rattle.tj_tree.specs.Forks.{Forks, IsEarlier, order_of}
use Rattle.tj_tree.specs.Nodes.{node_of, InEachTree, move_from}
use Rattle.tj_tree.specs.Walk.{GoesOn}
use Rattle.tj_tree.specs.Inner.Moves.{IsKnown, IsAtOrAbove}
use Rattle.tj_tree.proofs.Skew.{ranks, moves}
use Rattle.tj_tree.proofs.Walks.{MovesUp, MovesUp-higher, MoveTogether, MoveTogether-up, floor_of, before-same, before-apart}
use Rattle.tj_tree.proofs.Orders.{IsEarlier-order}

pub GoesOn_trans : (s : ℕ → Node → Type 0) (m : ℕ → Type 0) (s' : ℕ → Node → Type 0) (m' : ℕ → Type 0)
    (s'' : ℕ → Node → Type 0) (m'' : ℕ → Type 0) → GoesOn s m s' m' → GoesOn s' m' s'' m'' → GoesOn s m s'' m''
GoesOn_trans s m s' m' s'' m'' p q = record {
  kept = λ n node h. q.kept n node (p.kept n node h);
  still_may = λ n h. q.still_may n (p.still_may n h);
  tree = λ h. q.tree (p.tree h);
}

pub IsKnown_on : (s : ℕ → Node → Type 0) (m : ℕ → Type 0) (s' : ℕ → Node → Type 0) (m' : ℕ → Type 0) (at : TaskNode)
    → GoesOn s m s' m' → IsKnown s m at → IsKnown s' m' at
IsKnown_on s m s' m' at p h = record {
  here = p.kept at.task.0 at.node h.here;
  parent = p.still_may at.node.parent.0 h.parent;
  jump = p.still_may at.node.jump.0 h.jump;
}

-- a tree that has what is shown now has what was shown before
pub InEachTree_on : (s : ℕ → Node → Type 0) (m : ℕ → Type 0) (s' : ℕ → Node → Type 0) (m' : ℕ → Type 0)
    (P : Forks → Type 0) → GoesOn s m s' m' → InEachTree s P → InEachTree s' P
InEachTree_on s m s' m' P p each = λ forks h has. each forks h (λ n node k. has n node (p.kept n node k))

-- a move from a task to another that leads no higher than the floor
pub record Raises (fs : Forks) (floor : ℕ) (at to : TaskNode) : Type 0 where
  pub above : IsAtOrAbove fs to.task.0 at.task.0
  pub within : floor ≤ to.node.depth
  pub shallower : to.node.depth < at.node.depth
  pub saves : moves (ranks to.node.depth) (to.node.depth - floor) < moves (ranks at.node.depth) (at.node.depth - floor)

Raises-moves : (fs : Forks) (floor : ℕ) (at to : TaskNode) → node_of fs at.task.0 ≡ at.node
    → node_of fs to.task.0 ≡ to.node → MovesUp fs floor at.task.0 to.task.0 → Raises fs floor at to
Raises-moves fs floor at to here there move = record {
  above = move.above;
  within = rw there at move.within;
  shallower = rw (here, there) at move.shallower;
  saves = rw (here, there) at move.saves;
}

module _ (s : ℕ → Node → Type 0) (m : ℕ → Type 0) (at to : TaskNode) (floor : ℕ) (here : s at.task.0 at.node)
    (there : s to.task.0 to.node) (deep : floor < at.node.depth) where
  pub Raises-higher : InEachTree s (λ fs. to.task ≡ move_from at.node
      (nat_le floor (node_of fs at.node.jump.0).depth)) → InEachTree s (λ fs. Raises fs floor at to)
  Raises-higher moved fs h has =
      let is = has at.task.0 at.node here in
      let goal = has to.task.0 to.node there in
      let move = MovesUp-higher fs h floor at.task.0 is.0 (rw is.1 deep) in
      let led : to.task ≡ move_from (node_of fs at.task.0)
      (nat_le floor (node_of fs (node_of fs at.task.0).jump.0).depth) = rw is.1 (moved fs h has) in
      Raises-moves fs floor at to is.1 goal.1 (subst (λ task. MovesUp fs floor at.task.0 task.0) (sym led) move)

-- a move of two tasks together
pub record RaisesBoth (fs : Forks) (floor : ℕ) (x y x' y' : TaskNode) : Type 0 where
  pub first : Raises fs floor x x'
  pub second : Raises fs floor y y'
  pub level : x'.node.depth ≡ y'.node.depth
  pub apart : x'.task.0 ≢ y'.task.0

module _ (s : ℕ → Node → Type 0) (x y x' y' : TaskNode) (a b : ℕ) (first : s x.task.0 x.node)
    (second : s y.task.0 y.node) (first' : s x'.task.0 x'.node) (second' : s y'.task.0 y'.node)
    (level : x.node.depth ≡ y.node.depth) (apart : x.task.0 ≢ y.task.0) (parents : x.node.parent.0 ≢ y.node.parent.0)
    (led : x'.task ≡ move_from x.node (not (eqb x.node.jump.0 y.node.jump.0)))
    (led' : y'.task ≡ move_from y.node (not (eqb x.node.jump.0 y.node.jump.0))) where
  pub RaisesBoth-up : InEachTree s (λ fs. IsAtOrAbove fs x.task.0 a) → InEachTree s (λ fs. IsAtOrAbove fs y.task.0 b)
      → InEachTree s (λ fs. RaisesBoth fs (floor_of fs a b) x y x' y')
  RaisesBoth-up p q fs h has =
      let is_x = (has x.task.0 x.node first).1 in
      let is_y = (has y.task.0 y.node second).1 in
      let up_x = (has x'.task.0 x'.node first').1 in
      let up_y = (has y'.task.0 y'.node second').1 in
      let by_jump = not (eqb (node_of fs x.task.0).jump.0 (node_of fs y.task.0).jump.0) in
      let move = MoveTogether-up fs h a b x.task.0 y.task.0 (p fs h has) (q fs h has) (rw (is_x, is_y) level) apart
      (rw (is_x, is_y) parents) in
      let goal_x : x'.task ≡ move_from (node_of fs x.task.0) by_jump = rw (is_x, is_y) led in
      let goal_y : y'.task ≡ move_from (node_of fs y.task.0) by_jump = rw (is_x, is_y) led' in
      let both_y = subst (λ task. MoveTogether fs a b x.task.0 y.task.0 (move_from (node_of fs x.task.0) by_jump).0
      task.0) (sym goal_y) move in
      let both = subst (λ task. MoveTogether fs a b x.task.0 y.task.0 task.0 y'.task.0) (sym goal_x) both_y in
      record {
        first = Raises-moves fs (floor_of fs a b) x x' is_x up_x both.first;
        second = Raises-moves fs (floor_of fs a b) y y' is_y up_y both.second;
        level = rw (up_x, up_y) at both.level;
        apart = both.apart;
      }

module _ (s : ℕ → Node → Type 0) (a b x y : TaskNode) (m n : ℕ) (task_a : a.task.0 ≡ m) (task_b : b.task.0 ≡ n)
    (here_a : s a.task.0 a.node) (here_b : s b.task.0 b.node) (here_x : s x.task.0 x.node)
    (here_y : s y.task.0 y.node) (above_a : InEachTree s (λ fs. IsAtOrAbove fs x.task.0 a.task.0))
    (above_b : InEachTree s (λ fs. IsAtOrAbove fs y.task.0 b.task.0)) where
  at_tasks : (fs : Forks) (r : Bool) → (r ≡ true) ↔ IsEarlier (order_of fs) a.task.0 b.task.0
      → (r ≡ true) ↔ IsEarlier (order_of fs) m n
  at_tasks fs r h =
      subst (λ k. (r ≡ true) ↔ IsEarlier (order_of fs) k n) task_a
      (subst (λ k. (r ≡ true) ↔ IsEarlier (order_of fs) a.task.0 k) task_b h)

  -- where a walk from both has come to one task, the less deep one is before
  pub order-same : x.task.0 ≡ y.task.0 → x.node.depth ≡ min a.node.depth b.node.depth
      → InEachTree s (λ fs. (nat_lt a.node.depth b.node.depth ≡ true) ↔ IsEarlier (order_of fs) m n)
  order-same same level fs h has =
      let is_a = has a.task.0 a.node here_a in
      let is_b = has b.task.0 b.node here_b in
      let is_x = has x.task.0 x.node here_x in
      let both : IsAtOrAbove fs x.task.0 b.task.0 = subst (λ k. IsAtOrAbove fs k b.task.0) (sym same)
      (above_b fs h has) in
      let tells = before-same fs h a.task.0 b.task.0 x.task.0 is_a.0 is_b.0 (above_a fs h has) both
      (rw (is_a.1, is_b.1, is_x.1) level) in
      at_tasks fs _ (IsEarlier-order fs h a.task.0 b.task.0 is_a.0 is_b.0 _ (rw (is_a.1, is_b.1) at tells))

  -- where it has come to two children of one task, the one below the greater kid is before
  pub order-apart : x.task.0 ≢ y.task.0 → x.node.depth ≡ y.node.depth → x.node.parent.0 ≡ y.node.parent.0
      → InEachTree s (λ fs. (nat_lt y.node.kid x.node.kid ≡ true) ↔ IsEarlier (order_of fs) m n)
  order-apart apart level parents fs h has =
      let is_a = has a.task.0 a.node here_a in
      let is_b = has b.task.0 b.node here_b in
      let is_x = has x.task.0 x.node here_x in
      let is_y = has y.task.0 y.node here_y in
      let tells = before-apart fs h a.task.0 b.task.0 x.task.0 y.task.0 (above_a fs h has) (above_b fs h has)
      (rw (is_x.1, is_y.1) level) apart (rw (is_x.1, is_y.1) parents) in
      at_tasks fs _ (IsEarlier-order fs h a.task.0 b.task.0 is_a.0 is_b.0 _ (rw (is_x.1, is_y.1) at tells))
