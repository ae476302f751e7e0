use Rattle.tj_eval.proofs.AskedAt.{stands_at_ask}
use Rattle.tj_eval.proofs.laws.stands_at_its_ask.Goals as goal

pub returns : goal.returns
returns c = stands_at_ask
