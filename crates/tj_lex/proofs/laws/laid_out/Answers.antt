use Rattle.tj_lex.proofs.Laying.{AreTokens-pieces}
use Rattle.tj_lex.proofs.laws.laid_out.Goals as goal

pub returns : goal.returns
returns c = AreTokens-pieces
