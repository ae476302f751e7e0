use Rattle.tj_reasons.proofs.StatementsFirst.{reasons_first}
use Rattle.tj_reasons.proofs.first_laws.reasons_are_first.Goals as goal

pub returns : goal.returns
returns c = reasons_first
