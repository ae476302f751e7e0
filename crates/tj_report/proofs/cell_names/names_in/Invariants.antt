use Rattle.std.proofs.Common.{◌≡◌, map, take}
use Rattle.tj_report.specs.Inner.CellNames.{name_in}
use Rattle.tj_report.proofs.cell_names.names_in.Given as goal

abbrev pub invariant-loop-c : goal.invariant-loop-c
invariant-loop-c l = l.list.items ≡ map (name_in l.names) (take l.c-index l.cells)
