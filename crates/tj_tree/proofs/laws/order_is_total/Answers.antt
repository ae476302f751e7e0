use Rattle.tj_tree.proofs.LawProofs.{order_is_total as law}
use Rattle.tj_tree.proofs.laws.order_is_total.Goals as goal

pub returns : goal.returns
returns c = law
