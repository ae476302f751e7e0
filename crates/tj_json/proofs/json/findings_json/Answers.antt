-- One finding more.
use Rattle.tj_findings.proofs.Steps.{text_more}
use Rattle.tj_json.specs.JsonTexts.{finding_json}
use Rattle.tj_findings.specs.Scenes.{view}
use Rattle.tj_json.proofs.json.findings_json.Goals as goal

pub loop-finding-preserved : goal.loop-finding-preserved
loop-finding-preserved c = text_more (finding_json (view c.args.scene.now) c.args.level) c.args.findings.now
    c.loop-finding.finding-index c.finding-item.result c.loop-finding.json.items c.extend_from_slice.new.self.items
    c.as_slice.result.now c.in_ok-added.added.items c.loop-finding-test.true c.loop-finding.invariant c.finding-item.is
    c.in_ok-added.ensures c.as_slice.ensures.value c.in_ok-extend_from_slice.ensures.items
