use Rattle.std.proofs.Common.{◌≡◌, take}
use Rattle.std.specs.List.{flat_map}
use Rattle.tj_forest.specs.DotTexts.{drawing}
use Rattle.tj_findings.specs.Scenes.{view}
use Rattle.tj_forest.proofs.dot.drawings.Given as goal

-- the tasks so far
abbrev pub invariant-loop-line : goal.invariant-loop-line
invariant-loop-line l = l.text.items ≡ flat_map
    (drawing (view l.scene) l.lookups.lines.now l.members.cycles.now) (take l.line-index l.lookups.lines.now)
