use Rattle.std.proofs.Common.{◌≡◌, ◌<◌, length, map, take}
use Rattle.tj_report.specs.Inner.CellNames.{name_in}
use Rattle.tj_report.specs.Inner.CellNamesBy.{name_by, names_by}
use Rattle.tj_report.proofs.climbed_names.climbed_names.Given as goal

abbrev pub invariant-loop-c : goal.invariant-loop-c
invariant-loop-c g l = (l.list.items ≡ map (name_in (names_by l.rest.cells)) (take l.c-index l.cells))
    × (l.at.0 < length l.rest.cells)
    × (l.name ≡ name_by l.rest.cells l.at.0)
