use Rattle.tj_trace.proofs.HandsThere.{hands_are_whole}
use Rattle.tj_trace.proofs.laws.hands_are_whole.Goals as goal

pub returns : goal.returns
returns c = hands_are_whole
