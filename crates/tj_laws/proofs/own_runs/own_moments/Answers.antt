use Rattle.tj_laws.proofs.MeantNames.{closed_cycles_meant}
use Rattle.tj_laws.proofs.RunEnds.{alarms_closed, own_moments_stand}
use Rattle.tj_laws.proofs.own_runs.own_moments.Goals as goal

pub returns-clause-stand : goal.returns-clause-stand
returns-clause-stand g c =
    own_moments_stand _ c.call_runs.ensures.runs c.lasting_words.ensures.cells c.own_runs.ensures.stand

pub returns-clause-closed : goal.returns-clause-closed
returns-clause-closed g c = alarms_closed _
    (own_moments_stand _ c.call_runs.ensures.runs c.lasting_words.ensures.cells c.own_runs.ensures.stand)

pub returns-clause-meant : goal.returns-clause-meant
returns-clause-meant g c = closed_cycles_meant _
