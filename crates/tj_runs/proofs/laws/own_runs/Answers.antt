use Rattle.tj_runs.proofs.OwnRuns.{own_runs_are_legal, own_runs_stand}
use Rattle.tj_runs.proofs.laws.own_runs.Goals as goal

pub returns-clause-legal : goal.returns-clause-legal
returns-clause-legal g c = own_runs_are_legal _

pub returns-clause-stand : goal.returns-clause-stand
returns-clause-stand g c = own_runs_stand _
