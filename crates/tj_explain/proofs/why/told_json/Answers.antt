use Rattle.std.proofs.Common.{IfOk, subst, sym, ◌≡◌, ◌∙◌}
use Rattle.tj_explain.proofs.ToldOutcomes.{objects_told}
use Rattle.tj_findings.specs.Forests.{view_forest}
use Rattle.tj_findings.specs.Scenes.{view}
use Rattle.tj_explain.proofs.why.told_json.Goals as goal

pub returns : goal.returns
returns c =
    subst (λ z. IfOk c.forest_json.result (λ text. text.items ≡ z))
    (objects_told (view c.args.scene.now) c.args.lines.now c.args.outcome.now c.items.result.now
    (view_forest c.in_ok-forest.forest) (sym c.marked.ensures ∙ c.if-not-marked.false) c.items.ensures
    c.in_ok-forest.ensures) c.forest_json.ensures
