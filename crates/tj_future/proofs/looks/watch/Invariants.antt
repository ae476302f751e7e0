use Rattle.std.proofs.Common.{◌≡◌, []}
use Rattle.tj_words.specs.SeatViews.KnowsMore.{KnowsMore}
use Rattle.tj_words.specs.SeatViews.SeatSteps.{IsSeatOf}
use Rattle.tj_words.specs.SeatViews.Views.{IsIdle}
use Rattle.tj_cells.specs.CallLogs.{Seat}
use Rattle.tj_future.specs.LookLogs.{MakesLooks}
use Rattle.tj_future.specs.declared.watched.Watched.{Watched}
use Rattle.tj_future.proofs.looks.watch.Given as goal

-- the seat may be merged, and knows what it knew; looks from now on are looks from the beginning on
abbrev pub invariant-loop-i : goal.invariant-loop-i
invariant-loop-i g l = record {
  table : IsSeatOf l.laid l.seat;
  idle : IsIdle l.seat.me.0;
  slots : l.seat.me.1 ≡ [];
  knows : KnowsMore l.fn.seat.me.0 l.seat.me.0;
  made : (a : Watched) (new : Seat g.row.B.Denot) → MakesLooks l.p.0 a l.seat new → MakesLooks l.p.0 a l.fn.seat new;
}
