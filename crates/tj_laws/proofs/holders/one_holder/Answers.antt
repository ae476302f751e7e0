use Rattle.tj_laws.proofs.LoneHolders.{lone_seats_hold}
use Rattle.tj_laws.proofs.ReadyCounts.{readied_once}
use Rattle.tj_laws.proofs.HeldTasks.{held_throughout, laid_throughout, one_seat_holds}
use Rattle.tj_runs.proofs.TaskHolders.{holders_last}
use Rattle.tj_laws.proofs.holders.one_holder.Goals as goal

pub returns-clause-one : goal.returns-clause-one
returns-clause-one g c = one_seat_holds _

pub returns-clause-steps : goal.returns-clause-steps
returns-clause-steps g c = holders_last _ c.call_runs.ensures.runs c.lasting_words.ensures.count

pub returns-clause-claims : goal.returns-clause-claims
returns-clause-claims g c = readied_once _

pub returns-clause-held : goal.returns-clause-held
returns-clause-held g c = held_throughout _ c.call_runs.ensures.runs c.lasting_words.ensures.count

pub returns-clause-laid : goal.returns-clause-laid
returns-clause-laid g c = laid_throughout _ c.call_runs.ensures.runs c.lasting_words.ensures.count

pub returns-clause-lone : goal.returns-clause-lone
returns-clause-lone g c = lone_seats_hold _
