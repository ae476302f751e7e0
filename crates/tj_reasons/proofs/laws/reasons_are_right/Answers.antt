use Rattle.tj_reasons.proofs.ReasonsBegun.{reasons_right}
use Rattle.tj_reasons.proofs.laws.reasons_are_right.Goals as goal

pub returns : goal.returns
returns c = reasons_right
