-- One element more.
use Rattle.tj_findings.proofs.Steps.{text_more}
use Rattle.tj_forest.specs.DotTexts.{promise_node}
use Rattle.tj_forest.proofs.dot.promise_nodes.Goals as goal

pub loop-name-preserved : goal.loop-name-preserved
loop-name-preserved c = text_more (promise_node c.args.style.now c.args.owner.now) c.args.names.now
    c.loop-name.name-index c.name-item.result c.loop-name.text.items c.extend_from_slice.new.self.items
    c.as_slice.result.now c.in_ok-added.added.items c.loop-name-test.true c.loop-name.invariant c.name-item.is
    c.in_ok-added.ensures c.as_slice.ensures.value c.in_ok-extend_from_slice.ensures.items
