use Rattle.std.proofs.Common.{◌≡◌, ◌≤◌, ◌+◌, take}
use Rattle.tj_report.specs.SummaryTexts as spec
use Rattle.tj_report.proofs.summary.count.Given as goal

-- the numbers so far, and none is greater than that of the lines so far
abbrev pub invariant-loop-line : goal.invariant-loop-line
invariant-loop-line l =
    (l.done ≡ spec.count_with spec.is_done (take l.line-index l.lines))
    × (l.failed ≡ spec.count_with spec.has_failed (take l.line-index l.lines))
    × (l.waiting ≡ spec.count_with spec.is_waiting (take l.line-index l.lines))
    × (l.done + l.failed + l.waiting ≤ l.line-index)
