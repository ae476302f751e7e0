use Rattle.tj_events.proofs.Events.LegalCycles.{legal_alarms}
use Rattle.tj_events.proofs.laws.legal_alarms_are_on_cycles.Goals as goal

pub returns : goal.returns
returns c = legal_alarms
