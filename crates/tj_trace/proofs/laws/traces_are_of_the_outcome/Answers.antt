use Rattle.tj_trace.proofs.Seen.{is_of_outcome}
use Rattle.tj_trace.proofs.laws.traces_are_of_the_outcome.Goals as goal

pub returns : goal.returns
returns c = is_of_outcome
