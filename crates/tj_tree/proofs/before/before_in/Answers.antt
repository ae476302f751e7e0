use Rattle.std.proofs.Common.{◌∙◌}
use Rattle.tj_tree.proofs.LiftedPairs.{seen_lifted, seen_parted, order_at_one, order_at_two, cost_of_walk}
use Rattle.tj_tree.proofs.Readings.{GoesOn_trans}
use Rattle.tj_tree.proofs.before.before_in.Goals as goal

pub returns-then-x-y-clause-order : goal.returns-then-x-y-clause-order
returns-then-x-y-clause-order g c =
    let a = c.visit-a.ensures in
    let b = c.visit-b.ensures in
    let x = c.lifted-x.ensures in
    let y = c.lifted-y.ensures in
    let seen = seen_lifted a.task b.task a.known b.goes_on b.known x.goes_on x.known x.above y.goes_on y.known y.above in
    order_at_one seen c.if-x-y.true (x.level ∙ c.min-depth.ensures)

pub returns-clause-order : goal.returns-clause-order
returns-clause-order g c =
    let a = c.visit-a.ensures in
    let b = c.visit-b.ensures in
    let x = c.lifted-x.ensures in
    let y = c.lifted-y.ensures in
    let seen = seen_lifted a.task b.task a.known b.goes_on b.known x.goes_on x.known x.above y.goes_on y.known y.above in
    let both = c.parted.ensures in
    order_at_two (seen_parted seen both.goes_on both.a_known both.b_known both.a_above both.b_above) both.apart
    both.level both.siblings

pub returns-clause-cost : goal.returns-clause-cost
returns-clause-cost g c =
    let both = c.parted.ensures in
    let a = c.visit-a.ensures in
    let b = c.visit-b.ensures in
    let x = c.lifted-x.ensures in
    let y = c.lifted-y.ensures in
    let seen = seen_lifted a.task b.task a.known b.goes_on b.known x.goes_on x.known x.above y.goes_on y.known y.above in
    cost_of_walk (seen_parted seen both.goes_on both.a_known both.b_known both.a_above both.b_above)
    c.min-depth.result c.lifted-x.result.node.depth c.args.steps.now c.visit-a.new.steps c.visit-b.new.steps
    c.lifted-x.new.steps c.lifted-y.new.steps c.parted.new.steps c.min-depth.ensures x.level a.step b.step x.free y.free
    x.cost y.cost both.cost

pub returns-clause-goes_on : goal.returns-clause-goes_on
returns-clause-goes_on g c =
    let shows = g.R.NodeReader.shows in
    let may = g.R.NodeReader.may_look in
    GoesOn_trans (shows c.args.reader.now) (may c.args.reader.now) (shows c.lifted-y.new.reader)
    (may c.lifted-y.new.reader) (shows c.parted.new.reader) (may c.parted.new.reader)
    (GoesOn_trans (shows c.args.reader.now) (may c.args.reader.now) (shows c.lifted-x.new.reader)
    (may c.lifted-x.new.reader) (shows c.lifted-y.new.reader) (may c.lifted-y.new.reader)
    (GoesOn_trans (shows c.args.reader.now) (may c.args.reader.now) (shows c.visit-b.new.reader)
    (may c.visit-b.new.reader) (shows c.lifted-x.new.reader) (may c.lifted-x.new.reader)
    (GoesOn_trans (shows c.args.reader.now) (may c.args.reader.now) (shows c.visit-a.new.reader)
    (may c.visit-a.new.reader) (shows c.visit-b.new.reader) (may c.visit-b.new.reader)
    c.visit-a.ensures.goes_on c.visit-b.ensures.goes_on) c.lifted-x.ensures.goes_on) c.lifted-y.ensures.goes_on)
    c.parted.ensures.goes_on

pub returns-clause-stays : goal.returns-clause-stays
returns-clause-stays g c =
    let on = g.met.R.NodeReader.stays_on in
    let start = c.args.reader.now in
    on start c.lifted-y.new.reader c.parted.new.reader
    (on start c.lifted-x.new.reader c.lifted-y.new.reader
    (on start c.visit-b.new.reader c.lifted-x.new.reader
    (on start c.visit-a.new.reader c.visit-b.new.reader c.visit-a.ensures.stays c.visit-b.ensures.stays)
    c.lifted-x.ensures.stays) c.lifted-y.ensures.stays) c.parted.ensures.stays
