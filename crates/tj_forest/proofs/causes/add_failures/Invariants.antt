use Rattle.std.proofs.Common.{◌≡◌, ◌++◌, map, take}
use Rattle.std.specs.List.{flat_map}
use Rattle.tj_findings.specs.Findings.{failed}
use Rattle.tj_findings.specs.Forests.{rank}
use Rattle.tj_forest.specs.Inner.Ranks.{bare_ranks, ranks_of}
use Rattle.tj_findings.specs.Scenes.{view}
use Rattle.tj_forest.proofs.causes.add_failures.Given as goal

-- the failures so far
abbrev pub invariant-loop-line : goal.invariant-loop-line
invariant-loop-line l = ranks_of l.trees.items ≡ ranks_of l.initial.trees.items
    ++ bare_ranks (flat_map (λ k. map (λ f. (rank (view l.scene).places l.cycles k, f)) (failed l.lookups.lines.now k))
    (take l.line-index l.lookups.lines.now))
