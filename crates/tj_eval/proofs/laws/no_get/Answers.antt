use Rattle.tj_eval.proofs.Gets.{asks_none, main_asks_none}
use Rattle.tj_eval.proofs.laws.no_get.Goals as goal

pub returns-clause-main : goal.returns-clause-main
returns-clause-main c = main_asks_none

pub returns-clause-asks : goal.returns-clause-asks
returns-clause-asks c = asks_none
