use Rattle.std.proofs.Common.{◌≡◌, false, map, take}
use Rattle.tj_findings.specs.Forests.{bare}
use Rattle.tj_findings.specs.Groups.{groups}
use Rattle.tj_texts.specs.Inner.GroupKeys.{AreNumbered}
use Rattle.tj_texts.specs.Inner.GroupViews.{views}
use Rattle.tj_texts.proofs.groups.leaf_groups.Given as goal

-- the groups so far, with their numbers
abbrev pub invariant-loop-finding : goal.invariant-loop-finding
invariant-loop-finding l =
    (views l.groups.items ≡ groups l.all (map (λ f. bare f.now) (take l.finding-index l.findings)))
    × (l.all ≡ false → AreNumbered l.groups.items l.numbers)
