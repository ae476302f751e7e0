use Rattle.tj_core.proofs.Journals.Lines.{one_fault}
use Rattle.tj_core.proofs.Journals.OneReading.{events_one, no_fault}
use Rattle.tj_core.proofs.journal_laws.one_reading.Goals as goal

pub returns : goal.returns
returns c = record { events = events_one; fault = one_fault; not_both = no_fault }
