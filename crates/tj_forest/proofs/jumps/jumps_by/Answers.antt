use Rattle.std.proofs.lemmas.Result.{IfOk-weaker}
use Rattle.tj_forest.proofs.JumpsDoubled.{jumps_are}
use Rattle.tj_forest.proofs.jumps.jumps_by.Goals as goal

pub returns : goal.returns
returns c =
    IfOk-weaker c.doubled_often.result _ _ (λ jumps all lines f are. all lines f
    (jumps_are lines f c.args.steps.now c.in_ok-jumps.jumps.items c.in_ok-jumps.ensures are)) c.doubled_often.ensures
