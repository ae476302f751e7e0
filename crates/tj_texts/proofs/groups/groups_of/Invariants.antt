use Rattle.std.proofs.Common.{◌≡◌, false, map, take}
use Rattle.tj_findings.specs.Forests.{view_tree}
use Rattle.tj_findings.specs.Groups.{groups}
use Rattle.tj_texts.specs.Inner.GroupKeys.{AreNumbered}
use Rattle.tj_texts.specs.Inner.GroupViews.{views}
use Rattle.tj_texts.proofs.groups.groups_of.Given as goal

-- the groups so far, with their numbers
abbrev pub invariant-loop-tree : goal.invariant-loop-tree
invariant-loop-tree l = (views l.groups.items ≡ groups l.all (map view_tree (take l.tree-index l.trees)))
    × (l.all ≡ false → AreNumbered l.groups.items l.numbers)
