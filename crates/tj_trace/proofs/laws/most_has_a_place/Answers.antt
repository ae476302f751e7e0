use Rattle.tj_trace.proofs.MostPlaced.{most_has_a_place}
use Rattle.tj_trace.proofs.laws.most_has_a_place.Goals as goal

pub returns : goal.returns
returns c = most_has_a_place
