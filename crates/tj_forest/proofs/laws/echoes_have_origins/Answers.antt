use Rattle.tj_forest.proofs.Origins.{have_origins}
use Rattle.tj_forest.proofs.laws.echoes_have_origins.Goals as goal

pub returns : goal.returns
returns c = have_origins
