-- One member more.
use Rattle.std.proofs.Common.{map, ◌+◌}
use Rattle.tj_texts.proofs.SeveralTold.{one_member}
use Rattle.tj_findings.specs.Scenes.{view}
use Rattle.tj_texts.specs.WhyTexts.{members_from}
use Rattle.tj_texts.proofs.cycle_lines.members_from.Goals as goal

pub loop-number-preserved : goal.loop-number-preserved
loop-number-preserved c =
    let scene = view c.args.scene.now in
    let cycles = map (λ f. f.now) c.args.cycles.now in
    one_member scene cycles c.loop-number.number (c.args.from + c.args.count) c.loop-number.text.items
    c.extend_from_slice.new.self.items c.as_slice.result.now c.in_ok-added.added.items
    (members_from scene cycles c.args.from c.args.count) c.loop-number-test.true c.loop-number.invariant
    c.in_ok-added.ensures c.as_slice.ensures.value c.in_ok-extend_from_slice.ensures.items
