use Rattle.tj_runs.proofs.PushRuns.{found_chains_stand, pushes_lengthen}
use Rattle.tj_runs.proofs.laws.found_chains.Goals as goal

pub returns-clause-stand : goal.returns-clause-stand
returns-clause-stand g c = found_chains_stand _

pub returns-clause-pushes : goal.returns-clause-pushes
returns-clause-pushes g c = pushes_lengthen _
