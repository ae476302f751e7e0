use Rattle.std.proofs.Common.{◌≡◌, drop}
use Rattle.tj_words.specs.SeatViews.SeatSteps.{IsSameSeat}
use Rattle.tj_run.specs.Inner.Children.{MayGiveEach, gave_each}
use Rattle.tj_cells.specs.CallLogs.{Grows}
use Rattle.tj_run.proofs.forks.hand_each.Given as goal

-- the promises from this one on may be handed, and the view is then as it is to be
abbrev pub invariant-loop-p : goal.invariant-loop-p
invariant-loop-p g l = record {
  seat : IsSameSeat l.fn.seat l.seat;
  may : MayGiveEach l.t.0 (drop l.p-index l.promises) l.child.0 l.seat.me.0;
  view : gave_each l.t.0 l.promises l.child.0 l.fn.seat.me.0
      ≡ gave_each l.t.0 (drop l.p-index l.promises) l.child.0 l.seat.me.0;
  log : Grows l.fn.seat l.seat;
}
