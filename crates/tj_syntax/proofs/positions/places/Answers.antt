-- What is read off the tokens is right for each derivation.
use Rattle.tj_syntax.proofs.Starting.Read.{found_right}
use Rattle.tj_syntax.proofs.positions.places.Goals as goal

pub returns : goal.returns
returns c = found_right c.args.tokens.now c.scanned.result c.scanned.ensures
