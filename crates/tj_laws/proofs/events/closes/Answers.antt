use Rattle.tj_laws.proofs.ClosedOnce.{alarms_last, closers_own, closes_once, unwaits_settled}
use Rattle.tj_laws.proofs.events.closes.Goals as goal

pub returns-clause-owner : goal.returns-clause-owner
returns-clause-owner c = closers_own

pub returns-clause-once : goal.returns-clause-once
returns-clause-once c = closes_once

pub returns-clause-settled : goal.returns-clause-settled
returns-clause-settled c = unwaits_settled

pub returns-clause-alarms : goal.returns-clause-alarms
returns-clause-alarms c = alarms_last
