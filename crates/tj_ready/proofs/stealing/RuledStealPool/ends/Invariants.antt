use Rattle.std.proofs.Common.{◌≡◌, ◌+◌, ◌++◌, All, length, map}
use Rattle.crossbeam_deque.specs.Handles.{worker_deque}
use Rattle.tj_ready.specs.Seats.{IsHand}
use Rattle.tj_ready.specs.Stealing.{IsNewEnd, deque_of, reach_of}
use Rattle.tj_ready.proofs.stealing.RuledStealPool.ends.Given as goal

abbrev pub invariant-loop-own : goal.invariant-loop-own
invariant-loop-own g l =
    (length l.hands.items + length l.yielded ≡ length l.fn.owners.items)
    × All (λ seats. IsHand (map worker_deque l.fn.owners.items) (g.K.PoolRule.other l.cells) seats.items) l.hands.items
    × All (IsNewEnd l.cells) l.ends.items
    × (map deque_of l.ends.items ≡ map worker_deque l.yielded)
    × All (λ end. reach_of end ≡ map worker_deque l.fn.owners.items) l.ends.items
    × (l.fn.owners.items ≡ l.yielded ++ l.own-iterator.rest.items)
