use Rattle.tj_events.proofs.Graph.CycleLists.{cycles_return}
use Rattle.tj_events.proofs.graph_laws.cycles_return.Goals as goal

pub returns : goal.returns
returns c = cycles_return
