use Rattle.tj_detect.proofs.Prelude.{Node, NodeId, ap, false, move_from, nat_le, node_of, subst, sym, true, ◌∙◌, ◌≡◌}
use Rattle.std.proofs.Common.{le-leb}
use Rattle.tj_detect.proofs.Climbs.{climbed_on}
use Rattle.tj_detect.proofs.WalkNodes.{not_le}
use Rattle.tj_detect.proofs.tree_walk.Climber.higher.Goals as goal

pub visit-requires-after_bounds : goal.visit-requires-after_bounds
visit-requires-after_bounds g c κs within =
    c.visit-jump.ensures.climbs.goes_on.still_may c.args.at.node.parent.0 c.requires.known.parent

pub returns-then-depth-jump-clause-moved : goal.returns-then-depth-jump-clause-moved
returns-then-depth-jump-clause-moved g c =
    let jump = c.visit-jump.result in
    λ forks h has.
    let e : (node_of forks c.args.at.node.jump.0).depth ≡ jump.node.depth
    = ap (λ (n : NodeId). (node_of forks n.0).depth) (sym c.visit-jump.ensures.task)
    ∙ ap (λ (n : Node). n.depth) (has jump.task.0 jump.node c.visit-jump.ensures.known.here).1 in
    let q : nat_le c.args.depth (node_of forks c.args.at.node.jump.0).depth ≡ true
    = ap (λ d. nat_le c.args.depth d) e ∙ le-leb c.args.depth jump.node.depth c.if-depth-jump.true in
    subst (λ b. jump.task ≡ move_from c.args.at.node b) (sym q) c.visit-jump.ensures.task

pub returns-else-depth-jump-clause-moved : goal.returns-else-depth-jump-clause-moved
returns-else-depth-jump-clause-moved g c =
    let jump = c.visit-jump.result in
    λ forks h has.
    let e : (node_of forks c.args.at.node.jump.0).depth ≡ jump.node.depth
    = ap (λ (n : NodeId). (node_of forks n.0).depth) (sym c.visit-jump.ensures.task)
    ∙ ap (λ (n : Node). n.depth) (has jump.task.0 jump.node
    (c.visit.ensures.climbs.goes_on.kept jump.task.0 jump.node c.visit-jump.ensures.known.here)).1 in
    let q : nat_le c.args.depth (node_of forks c.args.at.node.jump.0).depth ≡ false
    = ap (λ d. nat_le c.args.depth d) e ∙ not_le c.args.depth jump.node.depth c.if-depth-jump.false in
    subst (λ b. c.visit.result.task ≡ move_from c.args.at.node b) (sym q) c.visit.ensures.task

pub returns-else-depth-jump-clause-climbs : goal.returns-else-depth-jump-clause-climbs
returns-else-depth-jump-clause-climbs g c = climbed_on c.visit-jump.ensures.climbs c.visit.ensures.climbs
