use Rattle.tj_forest.proofs.Forests.{holds_each}
use Rattle.tj_forest.proofs.laws.forests_hold_each_finding.Goals as goal

pub returns : goal.returns
returns c = holds_each
