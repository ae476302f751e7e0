use Rattle.tj_detect.proofs.Prelude.{MayLook, TreeShown, ◌<◌}
use Rattle.tj_detect.proofs.Climbs.{climbed_itself, climbed_on}
use Rattle.tj_tree.proofs.Pairs.{ArePair, pair_itself, pair_on, pair_cost}
use Rattle.tj_words.proofs.SeatLoads.NodeLooks.{tree_of}
use Rattle.tj_detect.proofs.WalkNodes.{move_may}
use Rattle.tj_detect.proofs.tree_walk.Climber.parted.Given.{Over}
use Rattle.tj_detect.proofs.tree_walk.Climber.parted.Goals as goal

pub loop-x-init : goal.loop-x-init
loop-x-init g c =
    let start = c.args.self.now in
    let a = c.args.a in
    let known = c.requires.a_known in
    record {
      pair = pair_itself (TreeShown start.seat.now) (MayLook c.args.laid.now start.seat.now) a c.args.b start.steps.now
          (tree_of start.seat.now a.task.0 a.node known.here) known c.requires.b_known c.requires.level
          c.requires.apart;
      climbs = climbed_itself start.seat start.steps;
    }

pub visit-x-requires-after_bounds : goal.visit-x-requires-after_bounds
visit-x-requires-after_bounds g c κs within =
    let now = c.loop-x.self.seat.now in
    move_may (TreeShown now) (MayLook c.args.laid.now now) c.loop-x.x c.loop-x.invariant.pair.first _ c.move_up.result
    c.move_up.ensures

pub visit-y-requires-after_bounds : goal.visit-y-requires-after_bounds
visit-y-requires-after_bounds g c κs within =
    let now = c.loop-x.self.seat.now in
    let to = c.move_up-in-loop-x in
    c.visit-x.ensures.climbs.goes_on.still_may to.result.0
    (move_may (TreeShown now) (MayLook c.args.laid.now now) c.loop-x.y c.loop-x.invariant.pair.second _ to.result
    to.ensures)

turned : (g : Over) (c : goal.After-visit-y g)
    → ArePair (TreeShown c.visit-y.new.self.seat.now) (MayLook c.args.laid.now c.visit-y.new.self.seat.now) c.args.a
    c.args.b c.visit-x.result c.visit-y.result c.args.self.now.steps.now c.visit-y.new.self.steps.now
    × (c.visit-x.result.node.depth < c.loop-x.x.node.depth)
turned g c =
    let may = MayLook c.args.laid.now in
    let before = c.loop-x.self in
    let mid = c.visit-x.new.self in
    let after = c.visit-y.new.self in
    let x = c.visit-x.ensures in
    let y = c.visit-y.ensures in
    pair_on (TreeShown before.seat.now) (may before.seat.now) (TreeShown mid.seat.now) (may mid.seat.now)
    (TreeShown after.seat.now) (may after.seat.now) c.args.a c.args.b c.loop-x.x c.loop-x.y c.visit-x.result
    c.visit-y.result c.args.self.now.steps.now before.steps.now mid.steps.now after.steps.now c.loop-x.invariant.pair
    x.climbs.goes_on y.climbs.goes_on x.known y.known c.loop-x-test.true c.move_up.result c.move_up-in-loop-x.result
    x.task y.task c.move_up.ensures c.move_up-in-loop-x.ensures x.step y.step

pub loop-x-smaller : goal.loop-x-smaller
loop-x-smaller g c = (turned g c).1

pub loop-x-preserved : goal.loop-x-preserved
loop-x-preserved g c = record {
  pair = (turned g c).0;
  climbs = climbed_on (climbed_on c.loop-x.invariant.climbs c.visit-x.ensures.climbs) c.visit-y.ensures.climbs;
}

pub returns-clause-cost : goal.returns-clause-cost
returns-clause-cost g c =
    let now = c.loop-x.self in
    pair_cost (TreeShown now.seat.now) (MayLook c.args.laid.now now.seat.now) c.args.a c.args.b c.loop-x.x c.loop-x.y
    c.args.self.now.steps.now now.steps.now c.loop-x.invariant.pair
