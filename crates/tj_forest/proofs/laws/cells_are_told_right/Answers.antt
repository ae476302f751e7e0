use Rattle.tj_forest.proofs.CellsTold.{cells_are_told_right}
use Rattle.tj_forest.proofs.laws.cells_are_told_right.Goals as goal

pub returns : goal.returns
returns c = cells_are_told_right
