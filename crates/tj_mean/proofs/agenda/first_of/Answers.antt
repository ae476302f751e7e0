use Rattle.std.proofs.Common.{◌≡◌, get_or, sym, ap, ◌∙◌, subst, arith}
use native.Mathlib.Decide.{dec_le}
use mathlib.Core.Logic.{dite}
use Rattle.tj_body.specs.Points.{HasStopped}
use Rattle.tj_mean.specs.Inner.Assignments.{assignment_in}
use Rattle.tj_mean.proofs.AtWork.KeptPoints.{any_default, all_stopped}
use Rattle.tj_mean.proofs.agenda.first_of.Goals as goal

pub loop-at-preserved : goal.loop-at-preserved
loop-at-preserved g c = λ i d l.
    let points = c.args.points.now in
    let at = c.loop-at.at in
    let V = assignment_in c.args.given.now in
    let x = c.index-points-at.result in
    dite (dec_le at i)
    (λ h. let e : i ≡ at = omega arith in
    subst (HasStopped V)
    (c.index-points-at.is ∙ any_default points at c.loop-at-test.true x d ∙ ap (λ k. get_or points k d) (sym e))
    (c.goes_on.ensures.stopped c.if-goes_on.false))
    (λ h. c.loop-at.invariant i d (omega arith))

pub returns-clause-none : goal.returns-clause-none
returns-clause-none g c = λ p i.
    let t = c.loop-at-test.false in
    all_stopped (assignment_in c.args.given.now) c.args.points.now
    (λ k d l. c.loop-at.invariant k d (omega arith)) p i
