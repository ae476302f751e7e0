use Rattle.tj_report.proofs.Prelude.{[], ap, arith, false, length, name_text, program_of, replicate, rules, sym}
use Rattle.tj_report.proofs.Prelude.{to_task, ◌∙◌, ◌≡◌}
use Rattle.tj_report.specs.Inner.WalkedReports.{IsPrintedAfter, IsWalkedTo}
use Rattle.tj_report.proofs.CellIndexes.{within}
use Rattle.tj_report.proofs.WalkedReports.{told_further, told_none}
use Rattle.tj_report.proofs.NamesBy.{name_root, some_at}
use Rattle.tj_report.proofs.rest_report.walked_report.Goals as goal

pub loop-step-init : goal.loop-step-init
loop-step-init g c = let b = g.B.Body in
    let rest = c.args.rest.now in
    let program = program_of b.places b.awaits b.left b.asks b.then rest.strict rest.root in
    let m = c.requires in
    let first = within m.0 0 (to_task []) m.1.named.root in
    let all = m.1.named.all in
    let told_is : c.in_ok-told.told.items ≡ replicate (length rest.cells) false = search rules in (
      omega arith,
      search rules,
      c.in_ok-name.ensures.items ∙ ap name_text (sym (name_root rest.cells m.0 m.1.named)),
      λ born w rs. told_none program rest.limit rest.cells rest.records born 0 c.in_ok-order.order.items
          c.in_ok-told.told.items c.new-text.result.items c.in_ok-order.ensures.items told_is c.new-text.ensures.items,
    )

pub loop-step-preserved : goal.loop-step-preserved
loop-step-preserved g c = let b = g.B.Body in
    let rest = c.args.rest.now in
    let program = program_of b.places b.awaits b.left b.asks b.then rest.strict rest.root in
    let n = some_at (IsPrintedAfter rest.cells c.loop-step.at c.next_task.new.name.items) c.in_ok-next.field-0
    c.in-Some-2.next c.in-Some-2.is c.in_ok-next.ensures in
    let t = some_at (λ any. IsWalkedTo program rest.limit rest.cells rest.records c.loop-step.at
    c.tell.new.order.items c.tell.new.told.items c.tell.new.text.items any) c.in_ok-found.found c.in-Some.further
    c.in-Some.is c.in_ok-found.ensures.walked in (
      n.there,
      c.tell.ensures.sized,
      n.printed,
      λ born w rs. told_further program rest.limit rest.cells rest.records born c.loop-step.at c.in-Some-2.next
          c.tell.new.order.items c.tell.new.told.items c.tell.new.text.items c.in-Some.further (t born w rs) n.later,
    )
