use Rattle.tj_laws.proofs.TableCycles as cycles
use Rattle.tj_laws.proofs.moments.every_moment.Goals as goal

pub returns : goal.returns
returns g c = cycles.every_moment _ c.call_runs.ensures.runs
