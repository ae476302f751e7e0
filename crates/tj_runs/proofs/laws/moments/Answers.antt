use Rattle.tj_runs.proofs.MomentLaws.{count_above, live_counts, names_are, others_count, owner_is}
use Rattle.tj_runs.proofs.MomentLaws.{phase_is, stop_stands}
use Rattle.tj_runs.proofs.laws.moments.Goals as goal

pub returns-clause-live : goal.returns-clause-live
returns-clause-live g c = live_counts

pub returns-clause-count : goal.returns-clause-count
returns-clause-count g c = count_above

pub returns-clause-owner : goal.returns-clause-owner
returns-clause-owner g c = owner_is

pub returns-clause-phase : goal.returns-clause-phase
returns-clause-phase g c = phase_is

pub returns-clause-others : goal.returns-clause-others
returns-clause-others g c = others_count

pub returns-clause-stop : goal.returns-clause-stop
returns-clause-stop g c = stop_stands

pub returns-clause-names : goal.returns-clause-names
returns-clause-names g c = names_are
