use Rattle.std.proofs.Common.{◌≡◌, ◌++◌, take}
use Rattle.std.specs.List.{flat_map}
use Rattle.tj_mean.specs.ReportTexts.{print_line}
use Rattle.tj_report.proofs.report.add_prints.Given as goal

abbrev pub invariant-loop-number : goal.invariant-loop-number
invariant-loop-number l = l.text.items ≡ l.initial.text.items ++ flat_map (print_line l.name)
    (take l.number-index l.prints)
