use Rattle.tj_report.proofs.Prelude.{AreToldBelow, [], ap, append-nil, length, refl, subst, sym, ◌++◌, ◌<◌, ◌∙◌}
use Rattle.std.specs.List.{All}
use Rattle.tj_report.specs.Inner.RestAlarms.{AreAlarmsBy}
use Rattle.tj_mean.specs.ReportTexts.{verdict_line}
use Rattle.tj_report.proofs.WalkedReports.{found_cycles, no_cycles, order_there, records_below, told_whole}
use Rattle.tj_report.proofs.rest_report.whole.Goals as goal

pub returns-then-not-marked : goal.returns-then-not-marked
returns-then-not-marked g c =
    let rest = c.args.rest.now in
    let m = c.requires.meaning in
    let t = c.requires.walked m.0 m.1 m.2 in
    let all = subst (AreToldBelow (length rest.cells) rest.records) c.as_slice.ensures.value
    (c.if-not-are_told.ensures refl) in
    told_whole _ _ _ _ m.0 m.1 m.2 _ _ _ _ _ t all _ []
    (no_cycles _ _ _ _ m.0 m.1 m.2 _ _ _ _ _ t all c.if-not-marked.true)
    (c.in_ok-add_last.ensures ∙ ap (λ l. l ++ verdict_line c.args.marked) (sym (append-nil c.args.text.items)))

pub add_alarms-requires-clause-there : goal.add_alarms-requires-clause-there
add_alarms-requires-clause-there g c κs within =
    let m = c.requires.meaning in
    let t = c.requires.walked m.0 m.1 m.2 in
    subst (All (λ n. n < length c.args.rest.now.cells)) (sym c.as_slice-2.ensures.value)
    (order_there _ _ _ _ m.0 m.1 m.2 c.args.order.items t.so_far.ps t.so_far.cells)

pub add_alarms-requires-clause-below : goal.add_alarms-requires-clause-below
add_alarms-requires-clause-below g c κs within =
    let m = c.requires.meaning in records_below _ _ _ _ m.0 m.1 m.2

pub returns : goal.returns
returns g c =
    let rest = c.args.rest.now in
    let m = c.requires.meaning in
    let t = c.requires.walked m.0 m.1 m.2 in
    let all = subst (AreToldBelow (length rest.cells) rest.records) c.as_slice.ensures.value
    (c.if-not-are_told.ensures refl) in
    let found = found_cycles _ _ _ _ m.0 m.1 m.2 _ _ _ _ _ t all c.add_alarms.new.text.items
    (subst (λ l. AreAlarmsBy rest.cells rest.records l c.args.text.items c.add_alarms.new.text.items)
    c.as_slice-2.ensures.value c.in_ok-add_alarms.ensures) in
    told_whole _ _ _ _ m.0 m.1 m.2 _ _ _ _ _ t all _ found.0 found.1
    (c.in_ok-add_last-2.ensures ∙ ap (λ l. l ++ verdict_line c.args.marked) found.2)
