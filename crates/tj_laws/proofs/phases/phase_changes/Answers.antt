use Rattle.tj_runs.proofs.PhaseRows.{phases_for_good, steps_by_rows}
use Rattle.tj_laws.proofs.phases.phase_changes.Goals as goal

pub returns-clause-rows : goal.returns-clause-rows
returns-clause-rows g c = steps_by_rows _

pub returns-clause-for_good : goal.returns-clause-for_good
returns-clause-for_good g c = phases_for_good _
