use Rattle.tj_log.proofs.PutSlots.{as_put}
use Rattle.tj_log.proofs.laws.slots_are_as_put.Goals as goal

pub returns : goal.returns
returns g c = record { slots = λ key. as_put _ }
