use Rattle.tj_chan.proofs.RelayRuns.{gives_relay}
use Rattle.tj_chan.proofs.relay.relay_root.Goals as goal

pub returns-clause-gives : goal.returns-clause-gives
returns-clause-gives c = gives_relay c.args.k
