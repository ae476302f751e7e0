use Rattle.tj_eval.proofs.GetTokens.{tokens_without}
use Rattle.tj_eval.proofs.laws.scripts_without_the_keyword.Goals as goal

pub returns : goal.returns
returns c = tokens_without
