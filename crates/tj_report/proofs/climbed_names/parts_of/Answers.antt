use Rattle.tj_report.proofs.Prelude.{ap, append-nil, arith, name_by, reverse, sym, ◌++◌, ◌∙◌}
use Rattle.tj_report.proofs.NamesBy.{climbs, climbed, name_made}
use Rattle.tj_report.proofs.climbed_names.parts_of.Goals as goal

pub loop-at-init : goal.loop-at-init
loop-at-init g c = (
  c.requires.there,
  sym (append-nil (name_by c.args.rest.now.cells c.args.c.0))
      ∙ ap (λ l. name_by c.args.rest.now.cells c.args.c.0 ++ reverse l) (sym c.new-parts.ensures.items),
)

pub loop-at-preserved : goal.loop-at-preserved
loop-at-preserved g c =
    let shown = c.args.rest.now.cells in let l = c.loop-at in let i = l.invariant.0 in
    let made = name_made shown c.requires.named.0 c.requires.named.1 l.at c.cell-cell.result c.cell-cell.ensures
    c.loop-at-test.true in let low = made.0 in (
      omega arith,
      climbs shown c.requires.named.0 c.requires.named.1 c.args.c.0 l.at c.cell-cell.result l.parts.items
          c.push.new.self.items c.cell-cell.ensures c.loop-at-test.true l.invariant.1 c.in_ok-push.ensures.items,
    )

pub loop-at-smaller : goal.loop-at-smaller
loop-at-smaller g c =
    (name_made c.args.rest.now.cells c.requires.named.0 c.requires.named.1 c.loop-at.at c.cell-cell.result
    c.cell-cell.ensures c.loop-at-test.true).0

pub returns : goal.returns
returns g c =
    c.reverse.ensures.items
    ∙ sym (climbed c.args.rest.now.cells c.requires.named.0 c.requires.named.1 c.args.c.0 c.loop-at.at
    c.loop-at.parts.items c.loop-at-test.false c.loop-at.invariant.1)
