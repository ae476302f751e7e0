use Rattle.std.proofs.Common.{◌≡◌, ◌<◌, length}
use Rattle.tj_base.specs.Texts.{name_text}
use Rattle.tj_body.specs.Programs.{program_of}
use Rattle.tj_report.specs.Inner.CellNamesBy.{name_by}
use Rattle.tj_report.specs.Inner.WalkedReports.{IsWalkedBefore}
use Rattle.tj_report.proofs.rest_report.walked_report.Given as goal

-- the tasks before the present one are told, and its name is printed
abbrev pub invariant-loop-step : goal.invariant-loop-step
invariant-loop-step g l = let b = g.B.Body in
    let program = program_of b.places b.awaits b.left b.asks b.then l.rest.strict l.rest.root in
    (l.at < length l.rest.cells) × (length l.told.items ≡ length l.rest.cells)
    × (l.name.items ≡ name_text (name_by l.rest.cells l.at))
    × IsWalkedBefore program l.rest.limit l.rest.cells l.rest.records l.at l.order.items l.told.items l.text.items
    l.marked
