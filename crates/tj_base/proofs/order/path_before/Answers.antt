use Rattle.std.proofs.Common.{rules, sym, ◌∙◌}
use Rattle.tj_base.proofs.Differences.{before_some, before_none}
use Rattle.tj_base.proofs.Orders.{before_tells}
use Rattle.tj_base.proofs.order.path_before.Goals as goal

pub returns-in-Some-clause-computed : goal.returns-in-Some-clause-computed
returns-in-Some-clause-computed c = sym (before_some c.args.a.now c.args.b.now c.in-Some.x c.in-Some.y
    (sym c.first_difference.ensures ∙ c.in-Some.is))

pub returns-in-None-clause-computed : goal.returns-in-None-clause-computed
returns-in-None-clause-computed c = let h = before_none c.args.a.now c.args.b.now
    (sym c.first_difference.ensures ∙ c.in-None.is) in search rules

pub returns-in-Some-clause-order : goal.returns-in-Some-clause-order
returns-in-Some-clause-order c = before_tells c.args.a.now c.args.b.now _ (returns-in-Some-clause-computed c)

pub returns-in-None-clause-order : goal.returns-in-None-clause-order
returns-in-None-clause-order c = before_tells c.args.a.now c.args.b.now _ (returns-in-None-clause-computed c)
