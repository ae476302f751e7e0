use Rattle.std.proofs.Common.{◌≡◌, ◌++◌, map, take, true}
use Rattle.std.specs.List.{flat_map}
use Rattle.tj_findings.specs.Findings.{owed}
use Rattle.tj_forest.specs.Inner.Ranks.{bare_ranks, ranks_of}
use Rattle.tj_forest.proofs.causes.add_all_owed.Given as goal

-- the debts so far
abbrev pub invariant-loop-line : goal.invariant-loop-line
invariant-loop-line l = ranks_of l.trees.items ≡ ranks_of l.initial.trees.items
    ++ bare_ranks (map (λ f. (l.rank, f)) (flat_map (owed l.lookups.lines.now true)
    (take l.line-index l.lookups.lines.now)))
