use Rattle.tj_events.proofs.Events.LegalRuns.{cycles_stand}
use Rattle.tj_events.proofs.laws.cycles_stand.Goals as goal

pub returns : goal.returns
returns c = cycles_stand
