use Rattle.std.proofs.Common.{IfOk, subst, ◌≡◌}
use Rattle.tj_forest.specs.DotTexts as dots
use Rattle.tj_findings.specs.Scenes.{view}
use Rattle.tj_forest.proofs.runs.picture.Goals as goal

pub returns : goal.returns
returns c =
    subst (λ lines. IfOk c.dot_text.result (λ text. text.items
    ≡ dots.dot_text (view c.args.scene.now) lines c.args.cycles.now)) c.in_ok-lookups.ensures.lines
    (subst (λ cycles. IfOk c.dot_text.result (λ text. text.items
    ≡ dots.dot_text (view c.args.scene.now) c.in_ok-lookups.lookups.lines.now cycles)) c.in_ok-members.ensures.cycles
    c.dot_text.ensures)
