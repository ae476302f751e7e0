use Rattle.tj_forest.proofs.FindingsGrouped.{groups_hold_each}
use Rattle.tj_forest.proofs.laws.groups_hold_each_finding.Goals as goal

pub returns : goal.returns
returns c = groups_hold_each
