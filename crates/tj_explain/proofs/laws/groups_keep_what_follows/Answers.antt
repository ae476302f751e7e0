use Rattle.tj_explain.proofs.GroupTrees.{groups_are_of_trees, leaves_are_grouped}
use Rattle.tj_explain.proofs.laws.groups_keep_what_follows.Goals as goal

pub returns : goal.returns
returns c = (groups_are_of_trees, leaves_are_grouped)
