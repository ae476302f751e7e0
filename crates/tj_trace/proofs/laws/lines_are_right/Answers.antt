use Rattle.tj_trace.proofs.LinesRight.{lines_are_right}
use Rattle.tj_trace.proofs.laws.lines_are_right.Goals as goal

pub returns : goal.returns
returns c = lines_are_right
