use Rattle.std.proofs.Common.{subst, sym}
use Rattle.std.proofs.lemmas.Result.{IfOk-weaker}
use Rattle.tj_findings.specs.Forests.{echo_before}
use Rattle.tj_forest.specs.Inner.Numbers.{AreSteps}
use Rattle.tj_forest.proofs.chains.jumps_to_echoes.Goals as goal

pub returns : goal.returns
returns c =
    let lines = c.args.lookups.now.lines.now in
    let f = echo_before lines in
    IfOk-weaker c.jumps_by.result _ _ (λ jumps all. all lines f
    (subst (AreSteps lines f) (sym c.as_slice.ensures.value) c.in_ok-steps.ensures)) c.jumps_by.ensures
