use Rattle.tj_modes.proofs.Prelude.{crosses, sendable}
use Rattle.tj_modes.proofs.RelayRuns.{one_by_lists}
use Rattle.tj_modes.proofs.laws.one_relay.Goals as goal

pub returns : goal.returns
returns c = one_by_lists c.channels_are_lists.ensures c.one_outcome.ensures

-- the body of a relay may cross threads
pub one_outcome-requires-send-B : goal.one_outcome-requires-send-B
one_outcome-requires-send-B c κs = search (sendable, crosses) depth 40
