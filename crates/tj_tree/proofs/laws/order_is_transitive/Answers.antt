use Rattle.tj_tree.proofs.LawProofs.{order_is_transitive as law}
use Rattle.tj_tree.proofs.laws.order_is_transitive.Goals as goal

pub returns : goal.returns
returns c = law
