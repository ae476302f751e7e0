use Rattle.std.proofs.Common.{◌≡◌}
use Rattle.tj_words.specs.SeatViews.SeatSteps.{IsSeatOf}
use Rattle.tj_cells.specs.CallLogs.{Grows}
use Rattle.tj_run.specs.Inner.Waits.{IsLeft}
use Rattle.tj_run.proofs.turns.worker.Given as goal

abbrev pub invariant-loop-i : goal.invariant-loop-i
invariant-loop-i g l = record {
  table : IsSeatOf l.laid l.post.seat;
  limit : g.P.Pool.limit l.post.pool ≡ l.laid.cells;
  left : IsLeft l.laid l.fn.seat.me.0 l.post.seat.me;
  log : Grows l.fn.seat l.post.seat;
}
