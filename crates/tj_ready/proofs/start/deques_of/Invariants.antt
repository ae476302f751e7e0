use Rattle.std.proofs.Common.{◌≡◌, All, map, take}
use Rattle.crossbeam_deque.specs.Handles.{worker_deque, stealer_deque, stealer_flavor}
use Rattle.tj_ready.specs.Orders.{flavor_of}
use Rattle.tj_ready.proofs.start.deques_of.Given as goal

abbrev pub invariant-loop-at : goal.invariant-loop-at
invariant-loop-at g l =
    (map stealer_deque l.deques.items ≡ take l.at (map worker_deque l.owners.items))
    × All (λ deque. stealer_flavor deque ≡ flavor_of g.K.PoolRule.newest) l.deques.items
