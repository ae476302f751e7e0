-- Where a child jumps, by the nodes of its maker, of the maker's jump, and of the jump of that.
use Rattle.tj_cells.proofs.Prelude.{Bool, Node, Option, Rec, View, ap, child_jump_of, node_of, sym, ℕ, ◌-◌, ◌∙◌, ◌≡◌}
use Rattle.std.proofs.Common.{◌==◌, if◌then◌else◌}
use Rattle.tj_log.specs.Shown.{SeatShown}
use Rattle.tj_tree.specs.declared.node.NodeId.{NodeId}
use Rattle.tj_tree.specs.Nodes.{InEachTree, jump_from}
use Rattle.tj_tree.specs.Walk.{GoesOn}
use Rattle.tj_words.specs.SeatViews.TreeReads.{TreeShown}

module _ (nodes : ℕ → Node) (p : NodeId) (node near far : Node) (here : nodes p.0 ≡ node)
    (up : nodes node.jump.0 ≡ near) (top : nodes near.jump.0 ≡ far) where
  near_is : nodes (nodes p.0).jump.0 ≡ near
  near_is = ap (λ (n : Node). nodes n.jump.0) here ∙ up

  far_is : nodes (nodes (nodes p.0).jump.0).jump.0 ≡ far
  far_is = ap (λ (n : Node). nodes n.jump.0) near_is ∙ top

  pub jump_by : jump_from nodes p ≡ if node.depth - near.depth == near.depth - far.depth then near.jump else p
  jump_by = λ i. if (here i).depth - (near_is i).depth == (near_is i).depth - (far_is i).depth then (near_is i).jump
      else p

-- by three looks
module _ {B : Type 0} (t : ℕ) (node near far : Node) (s0 s1 s2 : SeatShown (Option (Rec B)) (View B))
    (m0 m1 m2 : ℕ → Type 0) (here : TreeShown s0 t node) (up : TreeShown s1 node.jump.0 near)
    (top : TreeShown s2 near.jump.0 far) (first : GoesOn (TreeShown s0) m0 (TreeShown s1) m1)
    (second : GoesOn (TreeShown s1) m1 (TreeShown s2) m2) where
  abbrev maker : NodeId
  maker = record { 0 = t }

  pub jumps_so : (r : ℕ) (b : Bool) → (node.depth - near.depth == near.depth - far.depth) ≡ b
      → r ≡ (if b then near.jump else maker).0 → InEachTree (TreeShown s2) (λ forks. r ≡ child_jump_of t forks)
  jumps_so r b test e forks h has = e ∙ sym (ap (λ (n : NodeId). n.0)
      (jump_by (node_of forks) maker node near far
      (has t node (second.kept t node (first.kept t node here))).1
      (has node.jump.0 near (second.kept node.jump.0 near up)).1
      (has near.jump.0 far top).1
      ∙ ap (λ z. if z then near.jump else maker) test))
