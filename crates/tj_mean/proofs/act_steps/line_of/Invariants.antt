use Rattle.std.proofs.Common.{◌≡◌, ℕ, false}
use Rattle.tj_body.specs.History.{point_after}
use Rattle.tj_body.specs.Points.{weight}
use Rattle.tj_body.specs.Programs.{rules_of}
use Rattle.tj_mean.specs.Acts.{acts_within}
use Rattle.tj_mean.specs.Inner.Assignments.{assignment_in}
use Rattle.tj_mean.proofs.act_steps.line_of.Given as goal

-- a point of the task, with the acts of the steps up to it
abbrev pub invariant-loop-p : goal.invariant-loop-p
invariant-loop-p g l =
    let b = g.B.Body in
    let rules = rules_of b.places b.awaits b.left b.asks b.then false in
    let V = assignment_in l.given in
    (k : ℕ) × (l.p ≡ point_after rules V k l.fn.task) × (l.acts ≡ acts_within rules V k l.fn.task)

abbrev pub decreases-loop-p : goal.decreases-loop-p
decreases-loop-p g l = weight g.B.Body.left l.p
