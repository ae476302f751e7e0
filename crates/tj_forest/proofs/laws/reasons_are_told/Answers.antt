use Rattle.tj_forest.proofs.ReasonsTold.{reasons_are_told}
use Rattle.tj_forest.proofs.laws.reasons_are_told.Goals as goal

pub returns : goal.returns
returns c = reasons_are_told
