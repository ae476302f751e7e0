use Rattle.tj_laws.proofs.LoggedPhases.{logged_phases_stand, records_as_put}
use Rattle.tj_laws.proofs.NotedPuts.{puts_are_noted}
use Rattle.tj_laws.proofs.logged.logged_phases.Goals as goal

pub returns-clause-stand : goal.returns-clause-stand
returns-clause-stand g c = logged_phases_stand _

pub returns-clause-records : goal.returns-clause-records
returns-clause-records g c = records_as_put _

pub returns-clause-puts : goal.returns-clause-puts
returns-clause-puts g c = puts_are_noted _
