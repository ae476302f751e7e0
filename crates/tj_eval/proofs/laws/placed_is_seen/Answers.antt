use Rattle.tj_eval.specs.Inner.StandLaws.{are_seen}
use Rattle.tj_eval.proofs.laws.placed_is_seen.Goals as goal

pub returns : goal.returns
returns c = are_seen
