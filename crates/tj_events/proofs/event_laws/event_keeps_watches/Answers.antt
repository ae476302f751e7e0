use Rattle.tj_events.proofs.Events.EventEffects.{event_keeps_watches}
use Rattle.tj_events.proofs.event_laws.event_keeps_watches.Goals as goal

pub returns : goal.returns
returns c = event_keeps_watches
