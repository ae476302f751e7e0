use Rattle.tj_report.proofs.Prelude.{[], ap, arith, name_text, rules, sym, to_task, ◌∙◌}
use Rattle.tj_report.specs.Inner.WalkedReports.{IsPrintedAfter}
use Rattle.tj_report.proofs.CellIndexes.{within}
use Rattle.tj_report.proofs.NamesBy.{name_root, some_at}
use Rattle.tj_report.proofs.walk_order.walked.Goals as goal

pub loop-step-init : goal.loop-step-init
loop-step-init g c =
    let m = c.requires in
    let first = within m.0 0 (to_task []) m.1.root in
    let all = m.1.all in (
      omega arith,
      search rules,
      c.in_ok-name.ensures.items ∙ ap name_text (sym (name_root c.args.rest.now.cells m.0 m.1)),
    )

pub loop-step-preserved : goal.loop-step-preserved
loop-step-preserved g c =
    let n = some_at (IsPrintedAfter c.args.rest.now.cells c.loop-step.at c.next_task.new.name.items)
    c.in_ok-next.field-0 c.in-Some.next c.in-Some.is c.in_ok-next.ensures in
    (n.there, search rules, n.printed)
