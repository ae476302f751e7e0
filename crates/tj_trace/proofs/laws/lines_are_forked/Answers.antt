use Rattle.tj_trace.proofs.LinesRight.{lines_are_forked}
use Rattle.tj_trace.proofs.laws.lines_are_forked.Goals as goal

pub returns : goal.returns
returns c = lines_are_forked
