use Rattle.tj_laws.proofs.TableCycles as cycles
use Rattle.tj_laws.proofs.moments.no_other_wait_no_cycle.Goals as goal

pub returns : goal.returns
returns g c = cycles.no_other_no_cycle _
