use Rattle.std.proofs.Common.{◌+◌, ◌*◌, ◌-◌}
use Rattle.tj_body.specs.Programs.{program_of}
use Rattle.tj_mean.specs.Inner.Assignments.{assignment_in}
use Rattle.tj_mean.proofs.WaveSteps.{IsRoundBegun}
use Rattle.tj_mean.proofs.waves.first_full.Given as goal

-- a wave begins to which the limit is still to come
abbrev pub invariant-loop-round : goal.invariant-loop-round
invariant-loop-round g l = let b = g.B.Body in
    IsRoundBegun (program_of b.places b.awaits b.left b.asks b.then l.strict l.root) l.cells l.round
    (assignment_in l.given) l.agenda l.left l.points.items

abbrev pub decreases-loop-round : goal.decreases-loop-round
decreases-loop-round g l = (2 * l.cells + 1) - l.round
