use Rattle.tj_forest.proofs.TasksTold.{tasks_are_of_histories}
use Rattle.tj_forest.proofs.laws.tasks_are_of_histories.Goals as goal

pub returns : goal.returns
returns c = tasks_are_of_histories
