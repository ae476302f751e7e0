use Rattle.tj_words.proofs.Calls.LoggedRuns.{has_run}
use Rattle.tj_runs.proofs.table_laws.tables_have_runs.Goals as goal

pub returns : goal.returns
returns g c = λ program key s k. has_run program key s k
