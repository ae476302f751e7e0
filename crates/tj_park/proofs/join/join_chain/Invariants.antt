use Rattle.tj_words.specs.SeatViews.SeatSteps.{IsSameSeat}
use Rattle.tj_park.specs.Inner.JoinViews.{pushes_left}
use Rattle.tj_park.proofs.Joining.{Joining}
use Rattle.tj_park.proofs.ParkLogs.{IsJoining}
use Rattle.tj_park.proofs.join.join_chain.Given as goal

abbrev pub invariant-loop-t : goal.invariant-loop-t
invariant-loop-t g l = record {
  seat : IsSameSeat l.fn.seat l.seat;
  log : IsJoining l.t.0 l.q.0 l.fn.seat l.behind l.seat;
  joins : Joining l.laid.cells l.t.0 l.q.0 l.behind l.fn.seat.me.0 l.seat.me.0;
}

abbrev pub decreases-loop-t : goal.decreases-loop-t
decreases-loop-t g l = pushes_left l.laid.cells l.behind l.seat.me.0.found
