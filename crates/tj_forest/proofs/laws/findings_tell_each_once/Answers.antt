use Rattle.tj_forest.proofs.ToldOnce.{tells_each_once}
use Rattle.tj_forest.proofs.laws.findings_tell_each_once.Goals as goal

pub returns : goal.returns
returns c = λ strict root N lines o traced out. tells_each_once strict root N lines o traced out
