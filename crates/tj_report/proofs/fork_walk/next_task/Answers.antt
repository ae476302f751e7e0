use Rattle.tj_report.proofs.Prelude.{ap, arith, name_by, name_text, ◌∙◌}
use Rattle.tj_report.proofs.NamesBy.{begins_up, child_later, fork_later, if_some, name_made}
use Rattle.tj_report.proofs.fork_walk.next_task.Goals as goal

pub returns-in-Some : goal.returns-in-Some
returns-in-Some g c =
    if_some c.fork_after.result (λ u h. record {
      there = h.2.there;
      printed = h.2.printed;
      later = child_later c.args.rest.now.cells c.args.t u h.0 h.2.made;
    }) c.fork_after.ensures

pub fork_after-requires-in-Some-next-clause-name : goal.fork_after-requires-in-Some-next-clause-name
fork_after-requires-in-Some-next-clause-name g c κs within =
    let shown = c.args.rest.now.cells in
    let made = name_made shown c.requires.named.0 c.requires.named.1 c.loop-at.at c.cell-cell.result
    c.cell-cell.ensures c.loop-at-test.true in
    c.cut_part.ensures (name_by shown c.cell-cell.result.parent.0) (c.loop-at.invariant.1 ∙ ap name_text made.1)

pub returns-in-Some-next : goal.returns-in-Some-next
returns-in-Some-next g c =
    let shown = c.args.rest.now.cells in
    if_some c.fork_after-in-Some-next.result (λ u h. record {
      there = h.2.there;
      printed = h.2.printed;
      later = fork_later shown c.requires.named.0 c.requires.named.1 c.args.t c.loop-at.at u h.0
          c.cell-cell.result c.cell-cell.ensures c.loop-at-test.true c.loop-at.invariant.2 h.1 h.2.made;
    }) c.fork_after-in-Some-next.ensures

pub loop-at-smaller : goal.loop-at-smaller
loop-at-smaller g c =
    (name_made c.args.rest.now.cells c.requires.named.0 c.requires.named.1 c.loop-at.at c.cell-cell.result
    c.cell-cell.ensures c.loop-at-test.true).0

pub loop-at-preserved : goal.loop-at-preserved
loop-at-preserved g c =
    let shown = c.args.rest.now.cells in
    let made = name_made shown c.requires.named.0 c.requires.named.1 c.loop-at.at c.cell-cell.result
    c.cell-cell.ensures c.loop-at-test.true in
    let low = made.0 in let i = c.loop-at.invariant.0 in (
      omega arith,
      c.cut_part.ensures (name_by shown c.cell-cell.result.parent.0) (c.loop-at.invariant.1 ∙ ap name_text made.1),
      begins_up shown c.requires.named.0 c.requires.named.1 c.args.t c.loop-at.at c.cell-cell.result
          c.cell-cell.ensures c.loop-at-test.true c.loop-at.invariant.2,
    )
