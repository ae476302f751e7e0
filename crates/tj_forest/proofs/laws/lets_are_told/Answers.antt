use Rattle.tj_forest.proofs.LetsTold.{lets_are_told}
use Rattle.tj_forest.proofs.laws.lets_are_told.Goals as goal

pub returns : goal.returns
returns c = lets_are_told
