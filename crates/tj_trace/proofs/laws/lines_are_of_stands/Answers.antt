use Rattle.tj_trace.proofs.MadeThere.{lines_are_of_stands}
use Rattle.tj_trace.proofs.laws.lines_are_of_stands.Goals as goal

pub returns : goal.returns
returns c = lines_are_of_stands
