use Rattle.tj_laws.proofs.ShownEvents.{events_once}
use Rattle.tj_laws.proofs.events.shown_events.Goals as goal

pub returns : goal.returns
returns g c = events_once _ c.call_runs.ensures.legal
