use Rattle.tj_mean.proofs.Outcomes.OneOutcome.{has_one_outcome}
use Rattle.tj_mean.proofs.laws.one_outcome.Goals as goal

pub returns : goal.returns
returns g c = has_one_outcome
