use Rattle.crossbeam_deque.specs.Handles.{view}
use Rattle.tj_ready.proofs.Orders.{finds_left}
use Rattle.tj_ready.proofs.steals.steal_from.Goals as goal

pub steal_as-requires-clause-empty : goal.steal_as-requires-clause-empty
steal_as-requires-clause-empty g c =
    let seat = c.loop-i.seat in
    let rule = g.K.PoolRule in
    let law = g.met.K.PoolRule.kept in
    finds_left g.K.QueueRule.holds rule.empty rule.few rule.newest _ c.requires.flavor law.finds_none law.finds_few
    seat.id (view seat)
