use Rattle.std.proofs.Common.{◌≡◌, ◌<◌, ◌+◌, ◌++◌, length, reverse}
use Rattle.tj_report.specs.Inner.CellNamesBy.{name_by}
use Rattle.tj_report.proofs.climbed_names.name_beside.Given as goal

-- the name of this cell and the numbers so far, the last one first, are the name, and beside it stands the other cell's
-- maker with its name
abbrev pub invariant-loop-at : goal.invariant-loop-at
invariant-loop-at g l = (l.at < length l.rest.cells)
    × (l.beside < length l.rest.cells)
    × (name_by l.rest.cells l.fn.c.0 ≡ name_by l.rest.cells l.at ++ reverse l.parts.items)
    × (l.common ≡ name_by l.rest.cells l.beside)

-- one of the two comes nearer to the root
abbrev pub decreases-loop-at : goal.decreases-loop-at
decreases-loop-at g l = l.at + l.beside
