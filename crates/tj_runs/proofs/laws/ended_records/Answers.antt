use Rattle.tj_runs.proofs.CallRuns.{all_go}
use Rattle.tj_runs.proofs.HomeRecords.{ended_records_lie, ended_records_stay}
use Rattle.tj_runs.proofs.LastingWords.{count_never_falls}
use Rattle.tj_runs.proofs.OwnRuns.{own_runs_stand}
use Rattle.tj_runs.proofs.laws.ended_records.Goals as goal

pub returns-clause-stay : goal.returns-clause-stay
returns-clause-stay g c = ended_records_stay _ (λ program key u later a. all_go program key u later a)
    (count_never_falls _)

pub returns-clause-lie : goal.returns-clause-lie
returns-clause-lie g c = ended_records_lie _ (λ program key u later a. all_go program key u later a)
    (count_never_falls _) (own_runs_stand _)
