use Rattle.std.proofs.Common.{◌<◌, arith}
use Rattle.tj_tree.proofs.Pairs.{ArePair, pair_on, pair_cost}
use Rattle.tj_tree.proofs.Readings.{GoesOn_trans}
use Rattle.tj_tree.proofs.before.parted.Given.{Over}
use Rattle.tj_tree.proofs.before.parted.Goals as goal

turned : (g : Over) (c : goal.After-visit-y g)
    → ArePair (g.R.NodeReader.shows c.visit-y.new.reader) (g.R.NodeReader.may_look c.visit-y.new.reader)
    c.args.a c.args.b c.visit-x.result c.visit-y.result c.args.steps.now c.visit-y.new.steps
    × (c.visit-x.result.node.depth < c.loop-x.x.node.depth)
turned g c =
    let shows = g.R.NodeReader.shows in
    let may = g.R.NodeReader.may_look in
    let before = c.loop-x.reader in
    let between = c.visit-x.new.reader in
    let after = c.visit-y.new.reader in
    pair_on (shows before) (may before) (shows between) (may between) (shows after) (may after) c.args.a c.args.b
    c.loop-x.x c.loop-x.y c.visit-x.result c.visit-y.result c.args.steps.now c.loop-x.steps c.visit-x.new.steps
    c.visit-y.new.steps c.loop-x.invariant.pair c.visit-x.ensures.goes_on c.visit-y.ensures.goes_on
    c.visit-x.ensures.known c.visit-y.ensures.known c.loop-x-test.true c.move_up.result c.move_up-in-loop-x.result
    c.visit-x.ensures.task c.visit-y.ensures.task c.move_up.ensures c.move_up-in-loop-x.ensures
    c.visit-x.ensures.step c.visit-y.ensures.step

pub loop-x-smaller : goal.loop-x-smaller
loop-x-smaller g c = (turned g c).1

pub loop-x-preserved : goal.loop-x-preserved
loop-x-preserved g c =
    let shows = g.R.NodeReader.shows in
    let may = g.R.NodeReader.may_look in
    let start = c.args.reader.now in
    let before = c.loop-x.reader in
    let between = c.visit-x.new.reader in
    let after = c.visit-y.new.reader in
    let on = g.met.R.NodeReader.stays_on in
    let goes_on = GoesOn_trans (shows start) (may start) (shows before) (may before) (shows between) (may between)
    c.loop-x.invariant.goes_on c.visit-x.ensures.goes_on in
    record {
      pair = (turned g c).0;
      counted = omega (
        arith,
        c.loop-x.invariant.counted,
        c.visit-x.ensures.step,
        c.visit-y.ensures.step,
        c.visit-x.ensures.look,
        c.visit-y.ensures.look,
      );
      goes_on = GoesOn_trans (shows start) (may start) (shows between) (may between) (shows after) (may after)
          goes_on c.visit-y.ensures.goes_on;
      stays = on start between after (on start before between c.loop-x.invariant.stays c.visit-x.ensures.stays)
          c.visit-y.ensures.stays;
    }

pub returns-clause-cost : goal.returns-clause-cost
returns-clause-cost g c =
    let last = c.loop-x.reader in
    pair_cost (g.R.NodeReader.shows last) (g.R.NodeReader.may_look last) c.args.a c.args.b c.loop-x.x c.loop-x.y
    c.args.steps.now c.loop-x.steps c.loop-x.invariant.pair
