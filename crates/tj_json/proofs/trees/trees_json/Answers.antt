-- All causes.
use Rattle.std.proofs.Common.{ap, arith, ◌∙◌}
use Rattle.std.proofs.lemmas.List.{take_all}
use Rattle.std.specs.List.{flat_map}
use Rattle.tj_findings.proofs.Steps.{flat_map_map}
use Rattle.tj_findings.specs.Forests.{view_tree}
use Rattle.tj_json.specs.JsonTexts.{tree_json}
use Rattle.tj_findings.specs.Scenes.{view}
use Rattle.tj_json.proofs.trees.trees_json.Goals as goal

pub returns : goal.returns
returns c =
    let l = c.loop-tree in
    let ended = c.loop-tree-test.false in
    let text = tree_json (view c.args.scene.now) in
    l.invariant
    ∙ ap (flat_map (λ t. text (view_tree t))) (take_all l.tree-index c.args.trees.now (omega arith))
    ∙ flat_map_map text view_tree c.args.trees.now
