use Rattle.std.proofs.Common.{◌≡◌}
use Rattle.crossbeam_deque.specs.Handles.{view, IsPassOf, stealer_deque}
use Rattle.tj_ready.proofs.steals.steal_from.Given as goal

abbrev pub invariant-loop-i : goal.invariant-loop-i
invariant-loop-i g l = (view l.seat ≡ view l.initial.seat) × IsPassOf (stealer_deque l.deque) l.seat
