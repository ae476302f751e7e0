-- Nodes of a walk up the tree of forks.
use Rattle.tj_detect.proofs.Prelude.{Node, NodeId, move_from, sym, ℕ, ◌<◌}
use Rattle.std.proofs.Common.{◌≡◌, subst, arith, ⊎_elim, Bool, true, false, nat_le}
use Rattle.std.proofs.lemmas.Bool.Decides.{leb_tells}
use Rattle.tj_tree.specs.declared.node.TaskNode.{TaskNode}
use Rattle.tj_tree.specs.Inner.Moves.{IsKnown}

-- where a move up leads may be looked at
pub move_may : (shown : ℕ → Node → Type 0) (may : ℕ → Type 0) (p : TaskNode) → IsKnown shown may p → (b : Bool)
    (n : NodeId)
    → n ≡ move_from p.node b → may n.0
move_may shown may p k true n e = subst (λ (t : NodeId). may t.0) (sym e) k.jump
move_may shown may p k false n e = subst (λ (t : NodeId). may t.0) (sym e) k.parent

pub not_le : (a b : ℕ) → b < a → nat_le a b ≡ false
not_le a b l = ⊎_elim (λ p. absurd (let q = p.1 in omega arith)) (λ p. p.0) (leb_tells a b)
