use Rattle.std.proofs.Common.{◌≡◌, ◌++◌, take}
use Rattle.std.specs.List.{flat_map}
use Rattle.tj_base.specs.Texts.{name_text}
use Rattle.tj_mean.specs.ReportTexts.{task_lines}
use Rattle.tj_report.proofs.report.add_tasks.Given as goal

-- the lines so far, and the printed name of the last task
abbrev pub invariant-loop-line : goal.invariant-loop-line
invariant-loop-line l =
    (l.text.items ≡ l.initial.text.items ++ flat_map task_lines (take l.line-index l.lines))
    × (l.name.items ≡ name_text l.last)
