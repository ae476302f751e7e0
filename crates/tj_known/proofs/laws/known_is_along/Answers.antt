use Rattle.tj_known.specs.KnownLines.{joins_in}
use Rattle.tj_known.proofs.ToldJoins.{known_along}
use Rattle.tj_known.proofs.laws.known_is_along.Goals as goal

pub returns : goal.returns
returns c = λ lines joins fit told. known_along lines fit (joins_in lines) joins told
