use Rattle.std.proofs.Common.{◌≡◌, All, take, length, map}
use Rattle.crossbeam_deque.specs.Handles.{stealer_deque}
use Rattle.tj_ready.specs.Orders.{left_there}
use Rattle.tj_ready.specs.Seats.{AreSeats, known_in}
use Rattle.tj_ready.proofs.steals.steal_first.Given as goal

abbrev pub invariant-loop-at : goal.invariant-loop-at
invariant-loop-at g l =
    (known_in l.seats.items ≡ known_in l.initial.seats.items)
    × (length l.seats.items ≡ length l.initial.seats.items)
    × All (left_there g.K.PoolRule.newest g.K.PoolRule.empty g.K.PoolRule.few)
    (take l.at (known_in l.initial.seats.items))
    × AreSeats (map stealer_deque l.deques.items) l.seats.items
