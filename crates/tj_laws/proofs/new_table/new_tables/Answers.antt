use Rattle.tj_laws.proofs.FirstAlarms.{roots_alarm}
use Rattle.tj_laws.proofs.FirstClaims.{roots_claimed}
use Rattle.tj_laws.proofs.FirstEnds.{roots_end}
use Rattle.tj_laws.proofs.FirstRests.{joiners_rest}
use Rattle.tj_laws.proofs.FirstTags.{enders_tagged}
use Rattle.tj_laws.proofs.FirstMoments.{new_tables_go_on}
use Rattle.tj_laws.proofs.FirstWakes.{waiters_claimed_again}
use Rattle.tj_laws.proofs.new_table.new_tables.Goals as goal

pub returns-clause-goes_on : goal.returns-clause-goes_on
returns-clause-goes_on g c =
    new_tables_go_on _ _ _ _ _ c.start_meets_facts.ensures c.points_in_rounds.ensures.start

pub returns-clause-claimed : goal.returns-clause-claimed
returns-clause-claimed g c = roots_claimed _ _ _ _ _ c.start_meets_facts.ensures c.event_keeps_facts.ensures
    c.points_in_rounds.ensures.start

pub returns-clause-alarms : goal.returns-clause-alarms
returns-clause-alarms g c = roots_alarm _ _ _ _ _ c.start_meets_facts.ensures c.event_keeps_facts.ensures
    c.others_are_few.ensures c.points_in_rounds.ensures.start

pub returns-clause-rests : goal.returns-clause-rests
returns-clause-rests g c = joiners_rest _ _ _ _ _ c.start_meets_facts.ensures c.event_keeps_facts.ensures
    c.others_are_few.ensures c.points_in_rounds.ensures.start

pub returns-clause-tagged : goal.returns-clause-tagged
returns-clause-tagged g c = enders_tagged _ _ _ _ _ c.start_meets_facts.ensures c.event_keeps_facts.ensures
    c.others_are_few.ensures c.points_in_rounds.ensures.start c.points_in_rounds.ensures.written

pub returns-clause-claimed_again : goal.returns-clause-claimed_again
returns-clause-claimed_again g c = waiters_claimed_again _ _ _ _ _ c.start_meets_facts.ensures
    c.event_keeps_facts.ensures c.others_are_few.ensures c.points_in_rounds.ensures.start
    c.points_in_rounds.ensures.things c.points_in_rounds.ensures.written c.full_where_names.ensures

pub returns-clause-ends : goal.returns-clause-ends
returns-clause-ends g c = roots_end _ _ _ _ _ c.start_meets_facts.ensures c.event_keeps_facts.ensures
    c.others_are_few.ensures c.points_in_rounds.ensures.start c.points_in_rounds.ensures.written
    c.ended_records.ensures.lie
