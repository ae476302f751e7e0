use Rattle.tj_laws.proofs.SlotsAway.{hands_apart, records_stay}
use Rattle.tj_laws.proofs.own_runs.own_records.Goals as goal

pub returns-clause-hands : goal.returns-clause-hands
returns-clause-hands g c = hands_apart _

pub returns-clause-stay : goal.returns-clause-stay
returns-clause-stay g c = records_stay _
