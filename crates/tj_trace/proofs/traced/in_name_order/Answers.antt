use Rattle.tj_trace.proofs.Prelude.{TraceLine}
use Rattle.std.proofs.Common.{rules}
use Rattle.tj_mean.proofs.Lists.NameOrder.{sorted_ascends}
use Rattle.tj_trace.proofs.traced.in_name_order.Goals as goal

pub returns-clause-ascend : goal.returns-clause-ascend
returns-clause-ascend c =
    sorted_ascends (λ (l : TraceLine). l.line.name) c.args.lines.items c.sort_by.new.self.items
    c.in_ok-sort_by.ensures.sorted (λ a r q k. search rules) c.in_ok-sort_by.ensures.permutation c.requires
