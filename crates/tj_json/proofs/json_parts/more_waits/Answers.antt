-- One element more.
use Rattle.tj_findings.proofs.Steps.{text_more}
use Rattle.tj_findings.specs.Scenes.{view}
use Rattle.tj_json.specs.JsonTexts.{more_waits}
use Rattle.tj_json.proofs.json_parts.more_waits.Goals as goal

pub loop-wait-preserved : goal.loop-wait-preserved
loop-wait-preserved c = text_more (more_waits (view c.args.scene.now)) c.args.waits.now c.loop-wait.wait-index
    c.wait-item.result c.loop-wait.json.items c.extend_from_slice.new.self.items c.as_slice.result.now
    c.in_ok-added.added.items c.loop-wait-test.true c.loop-wait.invariant c.wait-item.is c.in_ok-added.ensures
    c.as_slice.ensures.value c.in_ok-extend_from_slice.ensures.items
