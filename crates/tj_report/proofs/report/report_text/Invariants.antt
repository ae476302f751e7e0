use Rattle.std.proofs.Common.{◌≡◌, ◌++◌, take}
use Rattle.std.specs.List.{flat_map}
use Rattle.tj_mean.specs.ReportTexts.{task_lines, alarm_line}
use Rattle.tj_report.proofs.report.report_text.Given as goal

-- the lines of the tasks, and those of the cycles so far
abbrev pub invariant-loop-links : goal.invariant-loop-links
invariant-loop-links l =
    l.text.items ≡ flat_map task_lines l.o.lines ++ flat_map alarm_line (take l.links-index l.o.cycles)
