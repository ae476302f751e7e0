use Rattle.std.proofs.Common.{◌≡◌, map, take}
use Rattle.tj_findings.specs.Findings.{told_debt}
use Rattle.tj_findings.specs.Forests.{put_each, view_forest}
use Rattle.tj_forest.proofs.consequences.add_debts.Given as goal

-- the promises so far
abbrev pub invariant-loop-promise : goal.invariant-loop-promise
invariant-loop-promise l = view_forest l.forest ≡ put_each l.number
    (map (told_debt l.guide.lookups.lines.now l.line) (take l.promise-index l.line.line.owes))
    (view_forest l.initial.forest)
