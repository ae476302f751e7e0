use Rattle.tj_tree.proofs.LawProofs.{none_is_before_itself as law}
use Rattle.tj_tree.proofs.laws.none_is_before_itself.Goals as goal

pub returns : goal.returns
returns c = law
