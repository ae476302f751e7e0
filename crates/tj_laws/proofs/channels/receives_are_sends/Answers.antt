use Rattle.tj_laws.proofs.SentItems.{receives_sent}
use Rattle.tj_laws.proofs.channels.receives_are_sends.Goals as goal

pub returns : goal.returns
returns g c = receives_sent _
