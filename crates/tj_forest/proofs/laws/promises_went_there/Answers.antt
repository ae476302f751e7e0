use Rattle.tj_forest.proofs.WentsRight.{promises_went_there}
use Rattle.tj_forest.proofs.laws.promises_went_there.Goals as goal

pub returns : goal.returns
returns c = promises_went_there
