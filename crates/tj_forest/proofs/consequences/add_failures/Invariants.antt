use Rattle.std.proofs.Common.{◌≡◌, List, take}
use Rattle.std.specs.List.{flat_map}
use Rattle.tj_findings.specs.Forests.{after_failure, put_all, view_forest}
use Rattle.tj_forest.specs.Inner.Numbers.{AreCausesFrom}
use Rattle.tj_findings.specs.declared.finding.Finding.{Finding}
use Rattle.tj_forest.proofs.consequences.add_failures.Given as goal

-- what the failed tasks so far owed
abbrev pub invariant-loop-line : goal.invariant-loop-line
invariant-loop-line l = (fs : List Finding) → AreCausesFrom fs 0 l.guide.causes
    → view_forest l.forest ≡ put_all fs (view_forest l.initial.forest)
    (flat_map (after_failure l.guide.lookups.lines.now) (take l.line-index l.guide.lookups.lines.now))
