use Rattle.tj_report.proofs.Prelude.{None, ap, arith, codes, get_or, length, name_by, name_text, subst, sym, ◌++◌, ◌<◌}
use Rattle.tj_report.proofs.Prelude.{◌∙◌}
use Rattle.tj_base.specs.declared.cell.CellId.{CellId}
use Rattle.tj_report.specs.Inner.AwaitedCells.{awaited_in}
use Rattle.tj_report.proofs.AwaitedCells.{awaited_there}
use Rattle.tj_report.proofs.Parts.{linked}
use Rattle.tj_report.proofs.alarm_lines.add_link.Goals as goal

pub add_cell-requires-2-clause-there : goal.add_cell-requires-2-clause-there
add_cell-requires-2-clause-there g c κs within =
    let rest = c.args.tasks.now.rest.now in
    let there = c.requires.there in
    subst (λ (d : CellId). d.0 < length rest.cells) (sym c.awaited_at-awaited.ensures)
    (awaited_there (length rest.cells) (get_or rest.records c.args.c None) (omega arith) (c.requires.below c.args.c))

pub returns : goal.returns
returns g c =
    let rest = c.args.tasks.now.rest.now in
    linked c.args.text.now.items c.args.before.now (name_text (name_by rest.cells c.args.c)) (codes " waits for ")
    (name_text (name_by rest.cells (awaited_in (get_or rest.records c.args.c None)).0)) c.add_cell.new.text.items
    c.add_cell-2.new.text.items c.in_ok-add_cell.ensures
    (c.in_ok-add_cell-2.ensures
    ∙ ap (λ (d : CellId). c.add_cell.new.text.items ++ (codes " waits for " ++ name_text (name_by rest.cells d.0)))
    c.awaited_at-awaited.ensures)
