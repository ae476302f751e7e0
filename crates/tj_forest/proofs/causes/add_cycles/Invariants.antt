use Rattle.std.proofs.Common.{◌≡◌, ◌++◌, map, take}
use Rattle.tj_findings.specs.Findings.{told_cycle}
use Rattle.tj_findings.specs.Forests.{ranked_from}
use Rattle.tj_forest.specs.Inner.Ranks.{bare_ranks, ranks_of}
use Rattle.tj_forest.proofs.causes.add_cycles.Given as goal

-- the cycles so far
abbrev pub invariant-loop-number : goal.invariant-loop-number
invariant-loop-number l = ranks_of l.trees.items ≡ ranks_of l.initial.trees.items
    ++ bare_ranks (ranked_from 0 (map (told_cycle l.lookups.lines.now) (take l.number l.cycles)))
