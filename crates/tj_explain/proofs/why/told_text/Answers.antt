use Rattle.std.proofs.Common.{IfOk, subst, sym, ◌≡◌, ◌∙◌}
use Rattle.tj_explain.proofs.ToldOutcomes.{words_told}
use Rattle.tj_findings.specs.Forests.{view_forest}
use Rattle.tj_findings.specs.Scenes.{view}
use Rattle.tj_explain.proofs.why.told_text.Goals as goal

pub returns : goal.returns
returns c =
    subst (λ z. IfOk c.forest_text.result (λ text. text.items ≡ z))
    (words_told (view c.args.scene.now) c.args.lines.now c.args.outcome.now c.items.result.now
    (view_forest c.in_ok-forest.forest) (sym c.marked.ensures ∙ c.if-not-marked.false) c.items.ensures
    c.in_ok-forest.ensures c.args.all) c.forest_text.ensures
