use Rattle.std.proofs.Common.{◌≡◌}
use Rattle.tj_words.specs.SeatViews.SeatSteps.{IsSameSeat}
use Rattle.tj_park.proofs.WakeLoops.{Waking, rest_length}
use Rattle.tj_park.specs.WakeLogs.{MakesWake}
use Rattle.tj_park.proofs.wakes.wake.Given as goal

-- the first tasks of the chain are woken, by the steps so far
abbrev pub invariant-loop-first : goal.invariant-loop-first
invariant-loop-first g l = record {
  seat : IsSameSeat l.fn.seat l.seat;
  limit : g.P.Pool.limit l.pool ≡ g.P.Pool.limit l.fn.pool;
  waking : (k : Waking g.P.Pool.puts l.laid.cells l.p.0 l.first l.woken l.fn.seat.me.0 l.seat.me.0 l.fn.pool l.pool)
      × MakesWake l.p.0 k.front k.left l.fn.seat l.seat;
}

abbrev pub decreases-loop-first : goal.decreases-loop-first
decreases-loop-first g l = rest_length l.seat.me.0.rest
