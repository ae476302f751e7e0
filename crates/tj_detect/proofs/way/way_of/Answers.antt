use Rattle.tj_detect.proofs.Prelude.{false, true}
use Rattle.tj_detect.proofs.WayOrders.{cost_told, way_told}
use Rattle.std.proofs.Common.{rules, subst₂}
use Rattle.tj_detect.specs.ClimbLogs.{LogsClimb}
use Rattle.tj_detect.proofs.way.way_of.Goals as goal

pub returns-then-is_before-clause-way : goal.returns-then-is_before-clause-way
returns-then-is_before-clause-way g c =
    let before = c.is_before.ensures in
    way_told c.args.seat.now c.is_before.new.self.seat.now before.climbs.later c.args.t.0 c.args.u.0
    c.requires.t_known c.requires.u_known before.seen c.order_is_that_of_names.ensures c.is_before.result true
    before.order c.if-is_before.true _ (search rules)

pub returns-else-is_before-clause-way : goal.returns-else-is_before-clause-way
returns-else-is_before-clause-way g c =
    let before = c.is_before.ensures in
    way_told c.args.seat.now c.is_before.new.self.seat.now before.climbs.later c.args.t.0 c.args.u.0
    c.requires.t_known c.requires.u_known before.seen c.order_is_that_of_names.ensures c.is_before.result false
    before.order c.if-is_before.false _ (search rules)

pub returns-then-is_before-clause-cost : goal.returns-then-is_before-clause-cost
returns-then-is_before-clause-cost g c =
    let before = c.is_before.ensures in
    cost_told c.args.seat.now c.is_before.new.self.seat.now before.climbs.later c.args.t.0 c.args.u.0
    c.requires.t_known c.requires.u_known before.seen c.args.steps.now c.is_before.new.self.steps.now before.cost
    _ _ (search rules) (search rules)

pub returns-else-is_before-clause-cost : goal.returns-else-is_before-clause-cost
returns-else-is_before-clause-cost g c =
    let before = c.is_before.ensures in
    cost_told c.args.seat.now c.is_before.new.self.seat.now before.climbs.later c.args.t.0 c.args.u.0
    c.requires.t_known c.requires.u_known before.seen c.args.steps.now c.is_before.new.self.steps.now before.cost
    _ _ (search rules) (search rules)

pub returns-then-is_before-clause-log : goal.returns-then-is_before-clause-log
returns-then-is_before-clause-log g c =
    subst₂ (λ n s. LogsClimb c.args.steps.now n c.args.seat.now s) (search rules) (search rules)
    c.is_before.ensures.climbs.log

pub returns-else-is_before-clause-log : goal.returns-else-is_before-clause-log
returns-else-is_before-clause-log g c =
    subst₂ (λ n s. LogsClimb c.args.steps.now n c.args.seat.now s) (search rules) (search rules)
    c.is_before.ensures.climbs.log
