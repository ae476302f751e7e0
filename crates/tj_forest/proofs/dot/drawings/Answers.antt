-- One element more.
use Rattle.tj_findings.proofs.Steps.{text_more}
use Rattle.tj_forest.specs.DotTexts.{drawing}
use Rattle.tj_findings.specs.Scenes.{view}
use Rattle.tj_forest.proofs.dot.drawings.Goals as goal

pub loop-line-preserved : goal.loop-line-preserved
loop-line-preserved c = text_more
    (drawing (view c.args.scene.now) c.args.lookups.now.lines.now c.args.members.now.cycles.now) c.args.lookups.now.lines.now
    c.loop-line.line-index c.line-item.result c.loop-line.text.items c.extend_from_slice.new.self.items
    c.as_slice.result.now c.in_ok-added.added.items c.loop-line-test.true c.loop-line.invariant c.line-item.is
    c.in_ok-added.ensures c.as_slice.ensures.value c.in_ok-extend_from_slice.ensures.items
