use Rattle.std.proofs.Common.{◌≡◌, ◌<◌, ◌↔◌, length}
use Rattle.tj_report.specs.Inner.CellNamesBy.{name_by}
use Rattle.tj_report.proofs.named_values.is_named.Given as goal

-- the cell has the name exactly where this one has what is left of it
abbrev pub invariant-loop-at : goal.invariant-loop-at
invariant-loop-at g l = (l.at < length l.rest.cells)
    × ((name_by l.rest.cells l.fn.c.0 ≡ l.name) ↔ (name_by l.rest.cells l.at ≡ l.left))

abbrev pub decreases-loop-at : goal.decreases-loop-at
decreases-loop-at g l = l.at
