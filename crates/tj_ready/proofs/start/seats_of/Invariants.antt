use Rattle.std.proofs.Common.{◌≡◌, ◌≤◌, All, length, map}
use Rattle.crossbeam_deque.specs.Handles.{worker_deque}
use Rattle.tj_ready.specs.Orders.{flavor_of}
use Rattle.tj_ready.specs.Seats.{AreSeats, IsNewOwner, known_in}
use Rattle.tj_ready.proofs.start.seats_of.Given as goal

abbrev pub invariant-loop-at : goal.invariant-loop-at
invariant-loop-at g l =
    All (IsNewOwner (flavor_of g.K.PoolRule.newest) (g.K.PoolRule.own l.cells)) l.owners.items
    × (map worker_deque l.owners.items ≡ map worker_deque l.initial.owners.items)
    × (length l.owners.items ≡ length l.initial.owners.items)
    × (length l.seats.items ≡ l.at)
    × (l.at ≤ length l.owners.items)
    × AreSeats (map worker_deque l.initial.owners.items) l.seats.items
    × All (λ v. v ≡ g.K.PoolRule.other l.cells) (known_in l.seats.items)
