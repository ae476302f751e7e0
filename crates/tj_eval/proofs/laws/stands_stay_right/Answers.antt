use Rattle.tj_eval.proofs.Stands.{stays_right}
use Rattle.tj_eval.proofs.laws.stands_stay_right.Goals as goal

pub returns : goal.returns
returns c = stays_right
