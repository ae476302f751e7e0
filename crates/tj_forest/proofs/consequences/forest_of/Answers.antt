use Rattle.std.proofs.Common.{ap, map, subst}
use Rattle.tj_forest.proofs.PutsAfter.{forest_made}
use Rattle.tj_findings.specs.Forests.{view_forest, view_tree}
use Rattle.tj_forest.specs.Inner.Numbers.{AreRootsFrom}
use Rattle.tj_findings.specs.Scenes.{view}
use Rattle.tj_forest.proofs.consequences.forest_of.Goals as goal

pub returns : goal.returns
returns c =
    let g = c.in_ok-guide.guide in
    let ts = c.in_ok-trees.trees.items in
    let numbers = c.in_ok-numbers.numbers in
    forest_made (view c.args.scene.now).places c.args.lookups.lines.now g.lookups.lines.now c.args.cycles.now
    g.members.cycles.now ts numbers g.causes (record { trees = map view_tree ts; strays = c.new-strays.result.items })
    (view_forest c.add_failures.new.forest) (view_forest c.add_waits_and_echoes.new.forest)
    c.in_ok-guide.ensures.lines c.in_ok-guide.ensures.cycles c.in_ok-guide.ensures.causes c.in_ok-trees.ensures
    (subst (λ z. AreRootsFrom z 0 numbers) c.as_slice.ensures.value c.in_ok-numbers.ensures)
    (ap (λ s. record { trees = map view_tree ts; strays = s }) c.new-strays.ensures.items)
    c.in_ok-add_failures.ensures c.in_ok-add_waits_and_echoes.ensures
