use Rattle.tj_report.proofs.Prelude.{ap, arith, program_of, refl, sym, ◌++◌, ◌∙◌}
use Rattle.tj_mean.specs.ReportTexts.{lines_of}
use Rattle.tj_report.proofs.WalkedReports.{records_below, told_on}
use Rattle.tj_report.proofs.rest_report.tell.Goals as goal

pub add_lines-requires-clause-below : goal.add_lines-requires-clause-below
add_lines-requires-clause-below g c κs within = let b = g.B.Body in
    let rest = c.args.rest.now in
    let program = program_of b.places b.awaits b.left b.asks b.then rest.strict rest.root in
    let m = c.requires.meaning in
    records_below program rest.limit rest.cells rest.records m.0 m.1 m.2 c.args.at c.in-Some.r.now
    (sym c.in-Some.ensures.record)

pub returns-clause-walked : goal.returns-clause-walked
returns-clause-walked g c born w rs = let b = g.B.Body in
    let rest = c.args.rest.now in
    let program = program_of b.places b.awaits b.left b.asks b.then rest.strict rest.root in
    let r = c.in-Some.r.now in
    let sized = c.requires.sized in
    let there = c.requires.there in
    told_on program rest.limit rest.cells rest.records born w rs c.args.at c.args.order.now.items
    c.push.new.self.items c.args.told.now.items _ c.args.text.now.items c.add_lines.new.text.items c.args.marked
    c.marked_by.result r
    (c.requires.walked born w rs) (sym c.in-Some.ensures.record) (omega arith) c.in_ok-push.ensures.items refl
    (λ s h. c.in_ok-add_lines.ensures s h ∙ ap (λ n. c.args.text.now.items ++ lines_of n s.line) c.requires.name)
    c.marked_by.ensures
