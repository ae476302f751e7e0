use Rattle.std.proofs.Common.{◌≡◌, ◌≤◌, All, length, map}
use Rattle.crossbeam_deque.specs.Handles.{worker_deque, stealer_deque}
use Rattle.tj_ready.specs.Orders.{flavor_of}
use Rattle.tj_ready.specs.Seats.{IsHand, IsNewOwner}
use Rattle.tj_ready.proofs.stealing.RuledStealPoolPool.make.Given as goal

abbrev pub ghosts-owners : goal.ghosts-owners
ghosts-owners g a = record { cells = a.cells }

abbrev pub invariant-loop-i : goal.invariant-loop-i
invariant-loop-i g l =
    All (IsNewOwner (flavor_of g.K.PoolRule.newest) (g.K.PoolRule.own l.cells)) l.owners.items
    × (length l.owners.items ≡ l.workers)
    × (map stealer_deque l.deques.value.items ≡ map worker_deque l.owners.items)
    × (length l.hands.items ≡ l._i)
    × (l._i ≤ l.workers)
    × All (λ seats. IsHand (map worker_deque l.owners.items) (g.K.PoolRule.other l.cells) seats.items) l.hands.items
