use Rattle.tj_mean.proofs.Outcomes.ToldOutcomes.{any_order}
use Rattle.tj_mean.proofs.laws.order_is_free.Goals as goal

pub returns : goal.returns
returns g c = any_order
