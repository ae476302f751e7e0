use Rattle.std.proofs.Common.{rules}
use Rattle.std.proofs.lemmas.Int.{wraps}
use Rattle.tj_task.proofs.numbers.minus.Goals as goal

pub returns : goal.returns
returns c = search (rules, wraps)
