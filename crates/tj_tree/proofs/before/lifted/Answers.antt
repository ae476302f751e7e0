use Rattle.std.proofs.Common.{◌<◌, arith}
use Rattle.tj_tree.proofs.Lifts.{IsLifted, lifted_on, lifted_cost}
use Rattle.tj_tree.proofs.Readings.{GoesOn_trans}
use Rattle.tj_tree.proofs.before.lifted.Given.{Over}
use Rattle.tj_tree.proofs.before.lifted.Goals as goal

turned : (g : Over) (c : goal.After-higher-at g)
    → IsLifted (g.R.NodeReader.shows c.higher-at.new.reader) (g.R.NodeReader.may_look c.higher-at.new.reader)
    c.args.from c.higher-at.result c.args.depth c.args.steps.now c.higher-at.new.steps
    × (c.higher-at.result.node.depth < c.loop-at.at.node.depth)
turned g c =
    let shows = g.R.NodeReader.shows in
    let may = g.R.NodeReader.may_look in
    let before = c.loop-at.reader in
    let after = c.higher-at.new.reader in
    lifted_on (shows before) (may before) (shows after) (may after) c.args.from c.loop-at.at c.higher-at.result
    c.args.depth c.args.steps.now c.loop-at.steps c.higher-at.new.steps c.loop-at.invariant.lifted
    c.higher-at.ensures.goes_on c.higher-at.ensures.known c.loop-at-test.true c.higher-at.ensures.moved
    c.higher-at.ensures.cost

pub loop-at-smaller : goal.loop-at-smaller
loop-at-smaller g c = (turned g c).1

pub loop-at-preserved : goal.loop-at-preserved
loop-at-preserved g c =
    let shows = g.R.NodeReader.shows in
    let may = g.R.NodeReader.may_look in
    let start = c.args.reader.now in
    let before = c.loop-at.reader in
    let after = c.higher-at.new.reader in
    let invariant = c.loop-at.invariant in
    record {
      lifted = (turned g c).0;
      counted = omega (arith, invariant.counted, c.higher-at.ensures.counted);
      goes_on = GoesOn_trans (shows start) (may start) (shows before) (may before) (shows after) (may after)
          invariant.goes_on c.higher-at.ensures.goes_on;
      stays = g.met.R.NodeReader.stays_on start before after invariant.stays c.higher-at.ensures.stays;
    }

pub returns-clause-cost : goal.returns-clause-cost
returns-clause-cost g c =
    let last = c.loop-at.reader in
    lifted_cost (g.R.NodeReader.shows last) (g.R.NodeReader.may_look last) c.args.from c.loop-at.at c.args.depth
    c.args.steps.now c.loop-at.steps c.loop-at.invariant.lifted
