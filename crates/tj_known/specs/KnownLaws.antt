-- The law of known joins.
use Rattle.std.specs.Prelude.{List}
use Rattle.tj_mean.specs.ActLines.{AreActLines}
use Rattle.tj_mean.specs.declared.act.ActLine.{ActLine}
use Rattle.tj_known.specs.KnownLines.{AreTold, KnownAreAlong, joins_in}
use Rattle.tj_known.specs.declared.known.KnownLine.{KnownLine}

-- whatever is told of the joins of such lines, each known join is along the fork order
abbrev pub KnownJoinsAreAlong : Type 0
KnownJoinsAreAlong = (lines : List ActLine) (joins : List KnownLine) → AreActLines lines
    → AreTold lines (joins_in lines) joins → KnownAreAlong joins
