use Rattle.std.proofs.Common.{ℕ, ◌<◌, get_or}
use Rattle.tj_body.specs.Points.{HasStopped}
use Rattle.tj_body.specs.declared.point.Point.{Point}
use Rattle.tj_mean.specs.Inner.Assignments.{assignment_in}
use Rattle.tj_mean.proofs.agenda.first_of.Given as goal

-- those before have stopped
abbrev pub invariant-loop-at : goal.invariant-loop-at
invariant-loop-at g l = (i : ℕ) (d : Point g.row.B.Denot) → i < l.at
    → HasStopped (assignment_in l.given) (get_or l.points i d)
