use Rattle.std.proofs.Common.{◌+◌, ◌-◌, length}
use Rattle.tj_body.specs.Programs.{program_of}
use Rattle.tj_mean.specs.Inner.Assignments.{assignment_in}
use Rattle.tj_mean.specs.Inner.Waves.{IsWaveAt}
use Rattle.tj_mean.proofs.waves.wave.Given as goal

-- who isn't ahead has stopped
abbrev pub invariant-loop-left : goal.invariant-loop-left
invariant-loop-left g l = let b = g.B.Body in
    IsWaveAt (program_of b.places b.awaits b.left b.asks b.then l.strict l.root) l.cells l.round (assignment_in l.given)
    l.agenda l.left l.points.items l.later.items l.writes.items

abbrev pub decreases-loop-left : goal.decreases-loop-left
decreases-loop-left g l = length l.agenda.woken.items + (l.cells - l.agenda.fresh)
