use Rattle.std.proofs.Common.{◌≡◌, ◌++◌, take}
use Rattle.std.specs.Prelude.{codes}
use Rattle.std.specs.List.{join_by}
use Rattle.tj_mean.specs.ReportTexts.{link_text}
use Rattle.tj_report.proofs.Parts.{between}
use Rattle.tj_report.proofs.report.add_alarm.Given as goal

-- what stands before the next part, and the parts so far
abbrev pub invariant-loop-link : goal.invariant-loop-link
invariant-loop-link l =
    (l.before ≡ between (codes ", ") l.link-index)
    × (l.text.items ≡ l.initial.text.items ++ join_by link_text (codes ", ") (take l.link-index l.links))
