use Rattle.tj_forest.proofs.Placed.{main_right}
use Rattle.tj_forest.proofs.laws.main_stands_right.Goals as goal

pub returns : goal.returns
returns c = main_right
