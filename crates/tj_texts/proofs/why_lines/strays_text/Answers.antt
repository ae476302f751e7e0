-- One finding more.
use Rattle.std.proofs.Common.{◌∷◌, []}
use Rattle.tj_findings.proofs.Steps.{text_more}
use Rattle.tj_findings.specs.Scenes.{view}
use Rattle.tj_texts.specs.WhyTexts.{members_text}
use Rattle.tj_findings.specs.declared.finding.Finding.{Finding}
use Rattle.tj_texts.proofs.why_lines.strays_text.Goals as goal

pub loop-finding-preserved : goal.loop-finding-preserved
loop-finding-preserved c =
    text_more (λ (f : Finding). members_text (view c.args.scene.now) c.args.all (f ∷ [])) c.args.findings.now
    c.loop-finding.finding-index c.finding-item.result c.loop-finding.text.items c.extend_from_slice.new.self.items
    c.as_slice.result.now c.in_ok-added.added.items c.loop-finding-test.true c.loop-finding.invariant c.finding-item.is
    c.in_ok-added.ensures c.as_slice.ensures.value c.in_ok-extend_from_slice.ensures.items
