use Rattle.tj_report.proofs.Prelude.{codes, name_text, sym}
use Rattle.tj_report.proofs.Parts.{between_more, joined_more}
use Rattle.tj_report.proofs.report.add_names.Goals as goal

pub loop-cell-preserved : goal.loop-cell-preserved
loop-cell-preserved c =
    let l = c.loop-cell in (
      sym (between_more (codes ", ") l.cell-index),
      joined_more name_text (codes ", ") c.args.cells.now l.cell-index c.cell-item.result c.args.text.now.items
          l.text.items c.add_named.new.text.items l.before.now c.loop-cell-test.true c.cell-item.is l.invariant.0
          l.invariant.1 c.in_ok-add_named.ensures,
    )
