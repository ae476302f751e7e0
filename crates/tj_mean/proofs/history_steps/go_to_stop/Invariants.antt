use Rattle.tj_body.specs.Programs.{rules_of}
use Rattle.tj_body.specs.Points.{weight}
use Rattle.tj_mean.specs.Inner.Assignments.{assignment_in}
use Rattle.tj_mean.specs.Inner.Reached.{Reaches}
use Rattle.tj_mean.proofs.history_steps.go_to_stop.Given as goal

-- the task has come from its point to here
abbrev pub invariant-loop : goal.invariant-loop
invariant-loop g l = let b = g.B.Body in
    Reaches (rules_of b.places b.awaits b.left b.asks b.then l.strict) (assignment_in l.given) l.initial.p l.p

abbrev pub decreases-loop : goal.decreases-loop
decreases-loop g l = weight g.B.Body.left l.p
