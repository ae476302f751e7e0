use Rattle.tj_forest.proofs.NothingWrong.{nothing_is_found}
use Rattle.tj_forest.proofs.laws.nothing_is_found_where_fine.Goals as goal

pub returns : goal.returns
returns c = λ strict root N lines o traced out. nothing_is_found strict root N lines o traced out
