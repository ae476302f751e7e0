use Rattle.tj_faults.proofs.TokenLines.{tokens_stand}
use Rattle.tj_faults.proofs.laws.tokens_stand_in_lines.Goals as goal

pub returns : goal.returns
returns c = tokens_stand
