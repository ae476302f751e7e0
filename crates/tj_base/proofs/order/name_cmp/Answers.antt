use Rattle.std.proofs.Common.{rules, sym, ◌∙◌}
use Rattle.tj_base.proofs.Differences.{order_some, order_none}
use Rattle.tj_base.proofs.order.name_cmp.Goals as goal

pub returns-in-Some : goal.returns-in-Some
returns-in-Some c = let h = order_some c.args.a.now c.args.b.now c.in-Some.x c.in-Some.y
    (sym c.first_difference.ensures ∙ c.in-Some.is) in search rules

pub returns-in-None : goal.returns-in-None
returns-in-None c = let h = order_none c.args.a.now c.args.b.now (sym c.first_difference.ensures ∙ c.in-None.is) in
    search rules
