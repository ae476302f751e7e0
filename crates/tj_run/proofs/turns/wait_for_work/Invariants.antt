use Rattle.tj_words.specs.SeatViews.SeatSteps.{IsSeatOf}
use Rattle.tj_run.specs.Inner.Waits.{IsLeft}
use Rattle.tj_run.proofs.turns.wait_for_work.Given as goal

abbrev pub invariant-loop-i : goal.invariant-loop-i
invariant-loop-i g l = record {
  table : IsSeatOf l.laid l.seat;
  left : IsLeft l.laid l.fn.seat.me.0 l.seat.me;
}
