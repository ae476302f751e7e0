use Rattle.tj_trace.proofs.SpotsThere.{spots_are_there}
use Rattle.tj_trace.proofs.laws.spots_are_there.Goals as goal

pub returns : goal.returns
returns c = spots_are_there
