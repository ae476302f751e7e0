use Rattle.tj_words.specs.SeatViews.SeatSteps.{IsSameSeat}
use Rattle.tj_detect.proofs.WalkLoops.{IsUnderWay}
use Rattle.std.proofs.Common.{◌-◌}
use Rattle.tj_detect.proofs.BlockSteps.{IsHopping}
use Rattle.tj_detect.proofs.blocking.Waiter.walk.Given as goal

abbrev pub invariant-loop-passed : goal.invariant-loop-passed
invariant-loop-passed g l = IsSameSeat l.fn.seat l.seat
    × IsUnderWay l.fn.self.laid.now.cells l.fn.self.t.0 l.fn.self.q.0 l.fn.self.way l.bound l.passed l.present.0
    l.fn.steps l.steps
    l.fn.seat.me.0 l.seat.me.0
    × IsHopping l.fn.self.laid.now.cells l.fn.self.t.0 l.fn.self.q.0 l.bound (l.bound - l.passed) l.present.0
    l.fn.seat l.seat
