use Rattle.tj_trace.proofs.LinesPlaced.{lines_have_places}
use Rattle.tj_trace.proofs.laws.lines_have_places.Goals as goal

pub returns : goal.returns
returns c = lines_have_places
