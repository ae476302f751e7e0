use Rattle.std.proofs.Common.{◌≡◌, ◌++◌, List, take}
use Rattle.std.specs.List.{flat_map}
use Rattle.tj_findings.specs.Forests.{after_chain, after_cycle, put_all, view_forest}
use Rattle.tj_forest.specs.Inner.Numbers.{AreCausesFrom}
use Rattle.tj_findings.specs.declared.finding.Finding.{Finding}
use Rattle.tj_forest.proofs.consequences.add_waits_and_echoes.Given as goal

-- the waits and echoes so far
abbrev pub invariant-loop-at : goal.invariant-loop-at
invariant-loop-at l = (fs : List Finding) → AreCausesFrom fs 0 l.guide.causes
    → view_forest l.forest ≡ put_all fs (view_forest l.initial.forest)
    (flat_map (λ k. after_cycle l.guide.lookups.lines.now l.guide.members.cycles.now k
    ++ after_chain l.guide.lookups.lines.now k) (take l.at l.guide.lookups.lines.now))
