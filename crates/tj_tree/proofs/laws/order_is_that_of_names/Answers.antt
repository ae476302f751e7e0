use Rattle.tj_tree.proofs.LawProofs.{order_is_that_of_names as law}
use Rattle.tj_tree.proofs.laws.order_is_that_of_names.Goals as goal

pub returns : goal.returns
returns c = law
