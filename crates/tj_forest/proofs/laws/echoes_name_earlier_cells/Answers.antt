use Rattle.tj_forest.proofs.Origins.{name_earlier_cells}
use Rattle.tj_forest.proofs.laws.echoes_name_earlier_cells.Goals as goal

pub returns : goal.returns
returns c = name_earlier_cells
