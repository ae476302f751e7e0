-- By the derivation, rule by rule.
use Rattle.tj_syntax.proofs.Starting.Parts.{script_stands}
use Rattle.tj_syntax.proofs.laws.parts_stand_at_their_starts.Goals as goal

pub returns : goal.returns
returns c = script_stands
