use Rattle.std.proofs.Common.{take}
use Rattle.tj_known.specs.Inner.Steps.{AreSteps}
use Rattle.tj_known.proofs.step.steps_of.Given as goal

-- the steps so far
abbrev pub invariant-loop-act : goal.invariant-loop-act
invariant-loop-act l = AreSteps l.lines (take l.act-index l.acts) l.steps.items
