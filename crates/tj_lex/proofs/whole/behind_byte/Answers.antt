use Rattle.std.proofs.Common.{arith}
use Rattle.tj_lex.proofs.Moves.{column-spot}
use Rattle.tj_lex.proofs.whole.behind_byte.Goals as goal

pub along-requires-clause-column : goal.along-requires-clause-column
along-requires-clause-column c = omega (arith, column-spot c.args.text.now c.args.spot c.requires.spot)
