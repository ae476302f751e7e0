use Rattle.std.proofs.Common.{IfOk, subst, ◌≡◌}
use Rattle.tj_findings.specs.Forests as forests
use Rattle.tj_findings.specs.Scenes.{view}
use Rattle.tj_forest.proofs.runs.forest_of_run.Goals as goal

pub returns : goal.returns
returns c =
    subst (λ lines. IfOk c.forest_of.result (λ forest. forests.view_forest forest
    ≡ forests.forest_of (view c.args.scene.now).places lines c.args.cycles.now)) c.in_ok-lookups.ensures.lines
    c.forest_of.ensures
