use Rattle.std.proofs.Common.{IfOk, map, subst, sym, ◌≡◌}
use Rattle.tj_findings.specs.Scenes.{view}
use Rattle.tj_texts.specs.WhyTexts as spec
use Rattle.tj_findings.specs.declared.finding.Finding.{Finding}
use Rattle.tj_texts.proofs.why_lines.alike_text.Goals as goal

pub returns-in-Owed : goal.returns-in-Owed
returns-in-Owed c =
    subst (λ (f : Finding). IfOk c.owed_line.result (λ text.
    text.items ≡ spec.alike_text (view c.args.scene.now) c.args.all f (map (λ g. g.now) c.args.findings.now)))
    (sym c.in-Owed.is) c.owed_line.ensures
