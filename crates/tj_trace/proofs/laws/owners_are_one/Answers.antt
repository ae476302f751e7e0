use Rattle.tj_trace.proofs.OwnersOne.{owners_are_one}
use Rattle.tj_trace.proofs.laws.owners_are_one.Goals as goal

pub returns : goal.returns
returns c = owners_are_one
