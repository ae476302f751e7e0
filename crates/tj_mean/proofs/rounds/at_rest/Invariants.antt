use Rattle.tj_body.specs.Programs.{program_of}
use Rattle.tj_mean.specs.Inner.Assignments.{assignment_in}
use Rattle.tj_mean.proofs.AtWork.TasksAtWork.{IsAtWork, steps_left}
use Rattle.tj_mean.proofs.rounds.at_rest.Given as goal

-- the points and the entries are those of tasks at work, and so many cells may still be made
abbrev pub invariant-loop-at : goal.invariant-loop-at
invariant-loop-at g l = let b = g.B.Body in
    IsAtWork (program_of b.places b.awaits b.left b.asks b.then l.strict l.root) l.cells (assignment_in l.given)
    l.points.items l.left

abbrev pub decreases-loop-at : goal.decreases-loop-at
decreases-loop-at g l = steps_left g.B.Body.left l.points.items l.left
