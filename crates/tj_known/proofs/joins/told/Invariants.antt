use Rattle.std.proofs.Common.{take}
use Rattle.tj_known.specs.KnownLines.{AreTold, joins_in}
use Rattle.tj_known.proofs.joins.told.Given as goal

-- the joins of the lines so far are told
abbrev pub invariant-loop-index : goal.invariant-loop-index
invariant-loop-index l = AreTold l.lines (joins_in (take l.index l.lines)) l.list
