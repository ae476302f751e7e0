use Rattle.std.proofs.Common.{◌≡◌, ◌++◌, take}
use Rattle.std.specs.Prelude.{codes}
use Rattle.std.specs.List.{flat_map}
use Rattle.tj_report.specs.Inner.RestAlarms.{link_in}
use Rattle.tj_mean.specs.ReportTexts.{link_text}
use Rattle.tj_report.proofs.alarm_lines.add_links.Given as goal

-- the parts so far, each after a comma
abbrev pub invariant-loop-p : goal.invariant-loop-p
invariant-loop-p g l =
    let rest = l.tasks.rest.now in
    l.text.items ≡ l.initial.text.items
    ++ flat_map (λ p. codes ", " ++ link_text (link_in rest.cells rest.records l.tasks.order.now p))
    (take l.p-index l.others)
