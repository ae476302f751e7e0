use Rattle.std.proofs.Common.{Bool, suc, ap, ◌∙◌}
use Rattle.tj_body.specs.History.{after_step}
use Rattle.tj_body.specs.Programs.{AreLawful, rules_of}
use Rattle.tj_mean.specs.Inner.Assignments.{assignment_in}
use Rattle.tj_mean.proofs.AtWork.PointSteps.{good_reaches}
use Rattle.tj_mean.proofs.history_steps.go_to_stop.Given.{Over}
use Rattle.tj_mean.proofs.history_steps.go_to_stop.Goals as goal

-- the bodies keep the laws
lawful : (g : Over) (strict : Bool) → let b = g.B.Body in
    AreLawful (rules_of b.places b.awaits b.left b.asks b.then strict)
lawful g strict = (g.met.B.Body g.world.𝓛 g.world.𝓜 g.world.𝓡 ((λ s x. x), (λ x. x), (λ x. x), λ x. x)).obeys

pub advance-requires-clause-good : goal.advance-requires-clause-good
advance-requires-clause-good g c κs within = good_reaches _ (assignment_in c.args.given.now) (lawful g c.args.strict)
    c.args.p.now c.loop.p c.requires.good c.loop.invariant

pub loop-preserved : goal.loop-preserved
loop-preserved g c =
    let b = g.B.Body in
    let rules = rules_of b.places b.awaits b.left b.asks b.then c.args.strict in
    let r = c.loop.invariant in
    (suc r.0, c.in_ok-advance.ensures.step ∙ ap (after_step rules (assignment_in c.args.given.now)) r.1)
