use Rattle.tj_tree.proofs.LawProofs.{names_tell_order as law}
use Rattle.tj_tree.proofs.laws.names_tell_order.Goals as goal

pub returns : goal.returns
returns c = law
