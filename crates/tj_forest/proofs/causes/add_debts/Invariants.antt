use Rattle.std.proofs.Common.{◌≡◌, ◌++◌, map, take}
use Rattle.tj_findings.specs.Findings.{told_debt}
use Rattle.tj_forest.specs.Inner.Ranks.{bare_ranks, ranks_of}
use Rattle.tj_forest.proofs.causes.add_debts.Given as goal

-- the promises so far
abbrev pub invariant-loop-promise : goal.invariant-loop-promise
invariant-loop-promise l = ranks_of l.trees.items ≡ ranks_of l.initial.trees.items
    ++ bare_ranks (map (λ f. (l.rank, f)) (map (told_debt l.lookups.lines.now l.line)
    (take l.promise-index l.line.line.owes)))
