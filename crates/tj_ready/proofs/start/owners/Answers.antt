use Rattle.std.proofs.Common.{arith}
use Rattle.tj_ready.specs.Orders.{flavor_of}
use Rattle.tj_ready.specs.Seats.{IsNewOwner}
use Rattle.tj_ready.proofs.Steps.{one_end_more}
use Rattle.tj_ready.proofs.start.owners.Goals as goal

pub loop-i-preserved : goal.loop-i-preserved
loop-i-preserved g c =
    let inv = c.loop-i.invariant in
    let own = c.in_ok-owner.ensures in
    let more = one_end_more (IsNewOwner (flavor_of g.K.PoolRule.newest) (g.K.PoolRule.own c.args.cells)) _ _ _
    c.loop-i._i c.in_ok-push.ensures.items inv.0 (record { order = own.0; start = own.1 }) inv.2 in
    let below = c.loop-i-test.true in
    (more.0, omega arith, more.1)
