use Rattle.tj_mean.specs.Inner.Assignments.{assignment_in}
use Rattle.tj_mean.specs.Inner.Reached.{Enters}
use Rattle.tj_mean.proofs.handed_on.enter_all.Given as goal

-- the entries so far are in the map
abbrev pub invariant-loop-cell : goal.invariant-loop-cell
invariant-loop-cell l = Enters l.yielded (assignment_in l.initial.given) (assignment_in l.given)
