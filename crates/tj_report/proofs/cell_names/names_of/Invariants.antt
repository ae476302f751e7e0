use Rattle.std.proofs.Common.{◌≡◌, List, length}
use Rattle.tj_body.specs.Points.{Begins}
use Rattle.tj_body.specs.declared.point.Reference.{Reference}
use Rattle.tj_words.specs.AtRest.ClosedCells.{AreNamed}
use Rattle.tj_words.specs.AtRest.RestMeaning.{names}
use Rattle.tj_report.proofs.cell_names.names_of.Given as goal

-- the cells before have their names
abbrev pub invariant-loop-c : goal.invariant-loop-c
invariant-loop-c g l = (length l.names.items ≡ l.c)
    × ((born : List Reference) → AreNamed l.rest.cells born → Begins l.names.items (names born))
