use Rattle.std.proofs.Common.{◌≡◌, ◌<◌, ◌≤◌, ◌⊎◌}
use Rattle.tj_body.specs.Programs.{rules_of}
use Rattle.tj_body.specs.Points.{weight}
use Rattle.tj_mean.specs.Inner.Assignments.{assignment_in}
use Rattle.tj_mean.specs.Inner.Reached.{Reaches}
use Rattle.tj_mean.proofs.history_steps.go_on.Given as goal

-- the task has come from its point to here, and if it is another one, then fewer steps are left
abbrev pub invariant-loop : goal.invariant-loop
invariant-loop g l = let b = g.B.Body in record {
  reached : Reaches (rules_of b.places b.awaits b.left b.asks b.then l.strict) (assignment_in l.given) l.initial.p l.p;
  fits : l.p.made ≤ l.most;
  less : (l.p ≡ l.initial.p) ⊎ (weight b.left l.p < weight b.left l.initial.p);
}

abbrev pub decreases-loop : goal.decreases-loop
decreases-loop g l = weight g.B.Body.left l.p
