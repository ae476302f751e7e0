use Rattle.std.proofs.Common.{◌+◌, sym, subst, take}
use Rattle.tj_known.specs.Inner.Steps.{AreSteps}
use Rattle.tj_known.proofs.StepIndexes.{more_steps}
use Rattle.tj_known.proofs.step.steps_of.Goals as goal

pub loop-act-preserved : goal.loop-act-preserved
loop-act-preserved c = subst (λ ss. AreSteps c.args.lines.now (take (c.loop-act.act-index + 1) c.args.acts.now) ss)
    (sym c.in_ok-push.ensures.items)
    (more_steps c.args.lines.now c.args.acts.now c.loop-act.act-index c.act-item.result c.loop-act-test.true
    c.act-item.is c.loop-act.steps.items c.step_of-step.result c.loop-act.invariant c.step_of-step.ensures)
