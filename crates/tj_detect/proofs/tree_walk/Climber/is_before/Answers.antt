use Rattle.tj_detect.proofs.Prelude.{TreeShown, arith, ◌∙◌}
use Rattle.tj_detect.proofs.Climbs.{climbed_on, knows_on}
use Rattle.tj_tree.proofs.LiftedPairs.{AreSeen, seen_lifted, seen_parted, order_at_one, order_at_two, cost_of_walk}
use Rattle.tj_detect.specs.Inner.Climbs.{HasClimbed}
use Rattle.tj_detect.proofs.tree_walk.Climber.is_before.Given.{Over}
use Rattle.tj_detect.proofs.tree_walk.Climber.is_before.Goals as goal
use Rattle.tj_detect.proofs.tree_walk.Climber.is_before.Goals.{After-lifted-y}

-- the two tasks, and those that the walk has come to at the lesser depth
lifted : (g : Over) (c : After-lifted-y g)
    → AreSeen (TreeShown c.lifted-y.new.self.seat.now) c.args.a.0 c.args.b.0 c.visit-a.result c.visit-b.result
    c.lifted-x.result c.lifted-y.result
lifted g c =
    let a = c.visit-a.ensures in
    let b = c.visit-b.ensures in
    let x = c.lifted-x.ensures in
    let y = c.lifted-y.ensures in
    seen_lifted a.task b.task a.known b.climbs.goes_on b.known x.climbs.goes_on x.known x.above y.climbs.goes_on y.known
    y.above

-- what the walk has made of its seat and its count of steps by then
climbed : (g : Over) (c : After-lifted-y g)
    → HasClimbed c.args.laid.now c.args.self.now.seat c.lifted-y.new.self.seat c.args.self.now.steps
    c.lifted-y.new.self.steps
climbed g c =
    climbed_on (climbed_on c.visit-a.ensures.climbs c.visit-b.ensures.climbs)
    (climbed_on c.lifted-x.ensures.climbs c.lifted-y.ensures.climbs)

pub returns-then-x-y-clause-order : goal.returns-then-x-y-clause-order
returns-then-x-y-clause-order g c =
    order_at_one (lifted g (goal.at.returns-then-x-y-clause-order g c).After-lifted-y) c.if-x-y.true
    (c.lifted-x.ensures.level ∙ c.min-depth.ensures)

pub returns-clause-order : goal.returns-clause-order
returns-clause-order g c =
    let both = c.parted.ensures in
    order_at_two (seen_parted (lifted g (goal.at.returns-clause-order g c).After-lifted-y) both.climbs.goes_on
    both.a_known both.b_known both.a_above both.b_above) both.apart both.level both.siblings

pub returns-clause-cost : goal.returns-clause-cost
returns-clause-cost g c =
    let both = c.parted.ensures in
    let a = c.visit-a in
    let b = c.visit-b in
    let x = c.lifted-x in
    let y = c.lifted-y in
    cost_of_walk (seen_parted (lifted g (goal.at.returns-clause-cost g c).After-lifted-y) both.climbs.goes_on
    both.a_known both.b_known both.a_above both.b_above) c.min-depth.result x.result.node.depth
    c.args.self.now.steps.now a.new.self.steps.now b.new.self.steps.now x.new.self.steps.now y.new.self.steps.now
    c.parted.new.self.steps.now c.min-depth.ensures x.ensures.level a.ensures.step b.ensures.step x.ensures.free
    y.ensures.free x.ensures.cost y.ensures.cost both.cost

pub returns-then-x-y-clause-cost : goal.returns-then-x-y-clause-cost
returns-then-x-y-clause-cost g c =
    let a = c.visit-a in
    let b = c.visit-b in
    let x = c.lifted-x in
    let y = c.lifted-y in
    cost_of_walk (lifted g (goal.at.returns-then-x-y-clause-cost g c).After-lifted-y) c.min-depth.result
    x.result.node.depth c.args.self.now.steps.now a.new.self.steps.now b.new.self.steps.now x.new.self.steps.now
    y.new.self.steps.now y.new.self.steps.now c.min-depth.ensures x.ensures.level a.ensures.step b.ensures.step
    x.ensures.free y.ensures.free x.ensures.cost y.ensures.cost (λ digits few. omega arith)

pub visit-b-requires-after_bounds : goal.visit-b-requires-after_bounds
visit-b-requires-after_bounds g c κs within =
    c.visit-a.ensures.climbs.goes_on.still_may c.args.b.0 c.requires.b_open

pub lifted-x-requires-clause-known : goal.lifted-x-requires-clause-known
lifted-x-requires-clause-known g c κs within =
    knows_on c.visit-b.ensures.climbs c.visit-a.result c.visit-a.ensures.known

pub lifted-y-requires-clause-known : goal.lifted-y-requires-clause-known
lifted-y-requires-clause-known g c κs within =
    knows_on c.lifted-x.ensures.climbs c.visit-b.result c.visit-b.ensures.known

pub parted-requires-clause-a_known : goal.parted-requires-clause-a_known
parted-requires-clause-a_known g c κs within =
    knows_on c.lifted-y.ensures.climbs c.lifted-x.result c.lifted-x.ensures.known

pub returns-then-x-y-clause-seen : goal.returns-then-x-y-clause-seen
returns-then-x-y-clause-seen g c = c.lifted-y.ensures.known.here.0

pub returns-clause-seen : goal.returns-clause-seen
returns-clause-seen g c = c.parted.ensures.a_known.here.0

pub returns-then-x-y-clause-climbs : goal.returns-then-x-y-clause-climbs
returns-then-x-y-clause-climbs g c = climbed g (goal.at.returns-then-x-y-clause-climbs g c).After-lifted-y

pub returns-clause-climbs : goal.returns-clause-climbs
returns-clause-climbs g c =
    climbed_on (climbed g (goal.at.returns-clause-climbs g c).After-lifted-y) c.parted.ensures.climbs
