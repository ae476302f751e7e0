-- One value more.
use Rattle.tj_findings.proofs.Steps.{text_more}
use Rattle.tj_json.specs.JsonTexts.{next_value}
use Rattle.tj_json.proofs.values.next_values.Goals as goal

pub loop-value-preserved : goal.loop-value-preserved
loop-value-preserved c = text_more next_value c.args.values.now c.loop-value.value-index c.value-item.result
    c.loop-value.json.items c.extend_from_slice.new.self.items c.as_slice.result.now c.in_ok-added.added.items
    c.loop-value-test.true c.loop-value.invariant c.value-item.is c.in_ok-added.ensures c.as_slice.ensures.value
    c.in_ok-extend_from_slice.ensures.items
