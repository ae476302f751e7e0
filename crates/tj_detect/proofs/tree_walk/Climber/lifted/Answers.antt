use Rattle.tj_detect.proofs.Prelude.{MayLook, TreeShown, ◌<◌}
use Rattle.tj_detect.proofs.Climbs.{climbed_itself, climbed_on}
use Rattle.tj_tree.proofs.Lifts.{IsLifted, lifted_itself, lifted_on, lifted_cost}
use Rattle.tj_words.proofs.SeatLoads.NodeLooks.{tree_of}
use Rattle.tj_detect.proofs.tree_walk.Climber.lifted.Given.{Over}
use Rattle.tj_detect.proofs.tree_walk.Climber.lifted.Goals as goal

pub loop-at-init : goal.loop-at-init
loop-at-init g c =
    let start = c.args.self.now in
    let from = c.args.from in
    let known = c.requires.known in
    record {
      lifted = lifted_itself (TreeShown start.seat.now) (MayLook c.args.laid.now start.seat.now) from c.args.depth
          start.steps.now (tree_of start.seat.now from.task.0 from.node known.here) known c.requires.deep;
      climbs = climbed_itself start.seat start.steps;
    }

turned : (g : Over) (c : goal.After-higher-at g)
    → IsLifted (TreeShown c.higher-at.new.self.seat.now) (MayLook c.args.laid.now c.higher-at.new.self.seat.now)
    c.args.from c.higher-at.result c.args.depth c.args.self.now.steps.now c.higher-at.new.self.steps.now
    × (c.higher-at.result.node.depth < c.loop-at.at.node.depth)
turned g c =
    let may = MayLook c.args.laid.now in
    let before = c.loop-at.self in
    let after = c.higher-at.new.self in
    lifted_on (TreeShown before.seat.now) (may before.seat.now) (TreeShown after.seat.now) (may after.seat.now)
    c.args.from c.loop-at.at c.higher-at.result c.args.depth c.args.self.now.steps.now before.steps.now after.steps.now
    c.loop-at.invariant.lifted c.higher-at.ensures.climbs.goes_on c.higher-at.ensures.known c.loop-at-test.true
    c.higher-at.ensures.moved c.higher-at.ensures.cost

pub loop-at-smaller : goal.loop-at-smaller
loop-at-smaller g c = (turned g c).1

pub loop-at-preserved : goal.loop-at-preserved
loop-at-preserved g c = record {
  lifted = (turned g c).0;
  climbs = climbed_on c.loop-at.invariant.climbs c.higher-at.ensures.climbs;
}

pub returns-clause-cost : goal.returns-clause-cost
returns-clause-cost g c =
    let now = c.loop-at.self in
    lifted_cost (TreeShown now.seat.now) (MayLook c.args.laid.now now.seat.now) c.args.from c.loop-at.at
    c.args.depth c.args.self.now.steps.now now.steps.now c.loop-at.invariant.lifted
