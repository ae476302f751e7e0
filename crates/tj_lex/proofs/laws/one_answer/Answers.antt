use Rattle.tj_lex.proofs.Determined.{Answers-one}
use Rattle.tj_lex.proofs.laws.one_answer.Goals as goal

pub returns : goal.returns
returns c = Answers-one
