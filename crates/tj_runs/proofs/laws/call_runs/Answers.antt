use Rattle.tj_runs.proofs.CallRuns.{all_go, call_runs_are_legal, calls_are_steps, ended_are_closed}
use Rattle.tj_runs.proofs.CallRuns.{seats_are_quiet}
use Rattle.tj_runs.proofs.laws.call_runs.Goals as goal

pub returns-clause-calls : goal.returns-clause-calls
returns-clause-calls g c = calls_are_steps _

pub returns-clause-seats : goal.returns-clause-seats
returns-clause-seats g c = seats_are_quiet _

pub returns-clause-ended : goal.returns-clause-ended
returns-clause-ended g c = ended_are_closed _

pub returns-clause-runs : goal.returns-clause-runs
returns-clause-runs g c = λ program key u later a. all_go program key u later a

pub returns-clause-legal : goal.returns-clause-legal
returns-clause-legal g c = call_runs_are_legal _
