use Rattle.tj_trace.proofs.Noted.{notes_are_whole}
use Rattle.tj_trace.proofs.laws.notes_are_whole.Goals as goal

pub returns : goal.returns
returns c = notes_are_whole
