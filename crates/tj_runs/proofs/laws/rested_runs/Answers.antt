use Rattle.tj_runs.proofs.RestedRuns.{no_value_comes, rest_stays}
use Rattle.tj_runs.proofs.laws.rested_runs.Goals as goal

pub returns-clause-stays : goal.returns-clause-stays
returns-clause-stays g c = rest_stays _

pub returns-clause-no_value : goal.returns-clause-no_value
returns-clause-no_value g c = no_value_comes _
