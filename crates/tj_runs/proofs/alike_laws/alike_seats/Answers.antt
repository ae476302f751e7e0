use Rattle.tj_runs.proofs.AlikeSeats.{merged_seats_agree, seats_know_for_good, seats_number_alike}
use Rattle.tj_runs.proofs.EndedRecords.{records_say_results}
use Rattle.tj_runs.proofs.alike_laws.alike_seats.Goals as goal

pub returns-clause-known : goal.returns-clause-known
returns-clause-known g c = seats_know_for_good _

pub returns-clause-numbers : goal.returns-clause-numbers
returns-clause-numbers g c = seats_number_alike _

pub returns-clause-merged : goal.returns-clause-merged
returns-clause-merged g c = merged_seats_agree _

pub returns-clause-records : goal.returns-clause-records
returns-clause-records g c = records_say_results _
