use Rattle.tj_runs.proofs.Verdicts.{ended_walks_off_cycles}
use Rattle.tj_runs.proofs.laws.ended_walks.Goals as goal

pub returns : goal.returns
returns g c = ended_walks_off_cycles _
