use Rattle.std.proofs.Common.{Bool, ◌≡◌, ◌<◌, ◌≤◌, suc, inl, inr, ⊎_elim, refl, sym, ap, subst, ◌∙◌, arith}
use Rattle.tj_body.specs.History.{after_step}
use Rattle.tj_body.specs.Points.{HasStopped, weight}
use Rattle.tj_body.specs.Programs.{AreLawful, rules_of}
use Rattle.tj_body.specs.declared.point.Point.{Point}
use Rattle.tj_mean.specs.Inner.Assignments.{assignment_in}
use Rattle.tj_mean.specs.Inner.Reached.{Reaches}
use Rattle.tj_mean.proofs.AtWork.PointSteps.{good_reaches}
use Rattle.tj_mean.proofs.history_steps.go_on.Given.{Over}
use Rattle.tj_mean.proofs.history_steps.go_on.Goals as goal

pub loop-init : goal.loop-init
loop-init g c = record { reached = (0, refl); fits = c.requires.made; less = inl refl }

-- the bodies keep the laws
lawful : (g : Over) (strict : Bool) → let b = g.B.Body in
    AreLawful (rules_of b.places b.awaits b.left b.asks b.then strict)
lawful g strict = (g.met.B.Body g.world.𝓛 g.world.𝓜 g.world.𝓡 ((λ s x. x), (λ x. x), (λ x. x), λ x. x)).obeys

pub advance-requires-clause-good : goal.advance-requires-clause-good
advance-requires-clause-good g c κs within = good_reaches _ (assignment_in c.args.given.now) (lawful g c.args.strict)
    c.args.p.now c.loop.p c.requires.good c.loop.invariant.reached

pub returns-then-not-branch-clause-reached : goal.returns-then-not-branch-clause-reached
returns-then-not-branch-clause-reached g c =
    let b = g.B.Body in
    let rules = rules_of b.places b.awaits b.left b.asks b.then c.args.strict in
    let same : c.advance.new.p ≡ c.loop.p = c.in_ok-advance.ensures.stays c.if-not-branch.true in
    subst (λ z. Reaches rules (assignment_in c.args.given.now) c.args.p.now z) (sym same) c.loop.invariant.reached

pub returns-then-not-branch-clause-fits : goal.returns-then-not-branch-clause-fits
returns-then-not-branch-clause-fits g c =
    let same : c.advance.new.p ≡ c.loop.p = c.in_ok-advance.ensures.stays c.if-not-branch.true in
    subst (λ (z : Point g.row.B.Denot). z.made ≤ c.args.most) (sym same) c.loop.invariant.fits

pub returns-then-not-branch-clause-falls : goal.returns-then-not-branch-clause-falls
returns-then-not-branch-clause-falls g c =
    let left = g.B.Body.left in
    let V = assignment_in c.args.given.now in
    let same : c.advance.new.p ≡ c.loop.p = c.in_ok-advance.ensures.stays c.if-not-branch.true in
    λ going.
    ⊎_elim
    (λ e. absurd (going (subst (HasStopped V) e (c.in_ok-advance.ensures.halts c.if-not-branch.true))))
    (λ l. subst (λ z. weight left z < weight left c.args.p.now) (sym same) l)
    c.loop.invariant.less

pub returns-then-p-most-clause-full : goal.returns-then-p-most-clause-full
returns-then-p-most-clause-full g c =
    let b = g.B.Body in
    let rules = rules_of b.places b.awaits b.left b.asks b.then c.args.strict in
    let r = c.loop.invariant.reached in
    λ _. (
      (suc r.0, c.in_ok-advance.ensures.step ∙ ap (after_step rules (assignment_in c.args.given.now)) r.1),
      c.if-p-most.true,
    )

pub loop-preserved : goal.loop-preserved
loop-preserved g c =
    let b = g.B.Body in
    let rules = rules_of b.places b.awaits b.left b.asks b.then c.args.strict in
    let r = c.loop.invariant.reached in
    let few = c.if-p-most.false in
    let fewer = c.in_ok-advance.ensures.falls c.if-not-branch.false in record {
      reached = (
        suc r.0,
        c.in_ok-advance.ensures.step
            ∙ ap (after_step rules (assignment_in c.args.given.now)) r.1,
      );
      fits = omega arith;
      less = inr (⊎_elim
          (λ e. subst (λ z. weight b.left c.advance.new.p < weight b.left z) e fewer)
          (λ l. omega arith) c.loop.invariant.less);
    }
