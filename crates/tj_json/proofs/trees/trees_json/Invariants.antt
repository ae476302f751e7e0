use Rattle.std.proofs.Common.{◌≡◌, take}
use Rattle.std.specs.List.{flat_map}
use Rattle.tj_findings.specs.Forests.{view_tree}
use Rattle.tj_json.specs.JsonTexts.{tree_json}
use Rattle.tj_findings.specs.Scenes.{view}
use Rattle.tj_json.proofs.trees.trees_json.Given as goal

-- the causes so far
abbrev pub invariant-loop-tree : goal.invariant-loop-tree
invariant-loop-tree l =
    l.json.items ≡ flat_map (λ t. tree_json (view l.scene) (view_tree t)) (take l.tree-index l.trees)
