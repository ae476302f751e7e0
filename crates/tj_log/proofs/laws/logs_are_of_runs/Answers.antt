use Rattle.tj_log.proofs.OwnSteps.{logs_of_runs}
use Rattle.tj_log.proofs.laws.logs_are_of_runs.Goals as goal

pub returns : goal.returns
returns g c = record { logs = λ key. logs_of_runs _ }
