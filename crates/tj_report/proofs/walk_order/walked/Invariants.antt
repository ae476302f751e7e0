use Rattle.std.proofs.Common.{◌≡◌, ◌<◌, length}
use Rattle.tj_base.specs.Texts.{name_text}
use Rattle.tj_report.specs.Inner.CellNamesBy.{name_by}
use Rattle.tj_report.proofs.walk_order.walked.Given as goal

-- each cell has a place, and the name of the present task is printed
abbrev pub invariant-loop-step : goal.invariant-loop-step
invariant-loop-step g l = (l.at < length l.rest.cells) × (length l.places.items ≡ length l.rest.cells)
    × (l.name.items ≡ name_text (name_by l.rest.cells l.at))
