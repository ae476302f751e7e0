use Rattle.tj_forest.proofs.Placed.{tasks_are_told_right}
use Rattle.tj_forest.proofs.laws.tasks_are_told_right.Goals as goal

pub returns : goal.returns
returns c = tasks_are_told_right
