use Rattle.tj_tree.proofs.LawProofs.{later_forks_keep_order as law}
use Rattle.tj_tree.proofs.laws.later_forks_keep_order.Goals as goal

pub returns : goal.returns
returns c = law
