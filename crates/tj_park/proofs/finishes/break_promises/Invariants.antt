use Rattle.std.proofs.Common.{◌≡◌, drop, take}
use Rattle.tj_words.specs.SeatViews.SeatSteps.{IsSameSeat}
use Rattle.tj_words.specs.Words.Lists.{numbers}
use Rattle.tj_park.specs.Inner.Breaks.{HasBroken}
use Rattle.tj_park.specs.EndLogs.{BreaksEach}
use Rattle.tj_park.proofs.finishes.break_promises.Given as goal

-- the promises from this one on are left, and the others are broken
abbrev pub invariant-loop-p : goal.invariant-loop-p
invariant-loop-p g l = record {
  seat : IsSameSeat l.fn.seat l.seat;
  limit : g.P.Pool.limit l.pool ≡ g.P.Pool.limit l.fn.pool;
  broken : HasBroken l.t.0 l.promises (drop l.p-index l.promises) l.fn.seat.me.0 l.seat.me.0;
  breaks : BreaksEach g.P.Pool.puts (numbers (take l.p-index l.promises)) l.fn.seat l.seat l.fn.pool l.pool;
}
