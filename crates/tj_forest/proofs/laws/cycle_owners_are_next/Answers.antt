use Rattle.tj_forest.proofs.CycleOwners.{owners_are_next}
use Rattle.tj_forest.proofs.laws.cycle_owners_are_next.Goals as goal

pub returns : goal.returns
returns c = λ strict root N lines o traced out waits i. owners_are_next strict root N lines o traced out waits i
