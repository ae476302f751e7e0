use Rattle.tj_log.proofs.Unmoved.{fresh_first}
use Rattle.tj_log.proofs.laws.fresh_is_first.Goals as goal

pub returns : goal.returns
returns g c = record { first = λ key. fresh_first _ }
