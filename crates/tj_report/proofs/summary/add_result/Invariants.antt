use Rattle.std.proofs.Common.{◌≡◌, drop}
use Rattle.tj_report.specs.SummaryTexts as spec
use Rattle.tj_report.proofs.summary.add_result.Given as goal

-- the root stands only among the lines that are left, and nothing is added before it is found
abbrev pub invariant-loop-line : goal.invariant-loop-line
invariant-loop-line l =
    (spec.root_result l.lines ≡ spec.root_result (drop l.line-index l.lines)) × (l.text ≡ l.initial.text)
