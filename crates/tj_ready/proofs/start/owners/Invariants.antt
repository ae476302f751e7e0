use Rattle.std.proofs.Common.{◌≡◌, ◌≤◌, All, length}
use Rattle.tj_ready.specs.Orders.{flavor_of}
use Rattle.tj_ready.specs.Seats.{IsNewOwner}
use Rattle.tj_ready.proofs.start.owners.Given as goal

abbrev pub invariant-loop-i : goal.invariant-loop-i
invariant-loop-i g l =
    (length l.owners.items ≡ l._i)
    × (l._i ≤ l.workers)
    × All (IsNewOwner (flavor_of g.K.PoolRule.newest) (g.K.PoolRule.own l.cells)) l.owners.items
