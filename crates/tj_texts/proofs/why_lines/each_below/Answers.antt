-- One group more, and all.
use Rattle.std.proofs.Common.{ap, arith, ◌∙◌}
use Rattle.std.proofs.lemmas.List.{take_all}
use Rattle.std.specs.List.{flat_map}
use Rattle.tj_findings.proofs.Steps.{flat_map_map}
use Rattle.tj_findings.proofs.Steps.{text_more}
use Rattle.tj_texts.specs.Inner.GroupViews as groups
use Rattle.tj_findings.specs.Scenes.{view}
use Rattle.tj_texts.specs.WhyTexts.{below_text}
use Rattle.tj_texts.proofs.why_lines.each_below.Goals as goal

pub loop-group-preserved : goal.loop-group-preserved
loop-group-preserved c =
    text_more (λ g. below_text (view c.args.scene.now) c.args.all (groups.view g)) c.args.groups.now
    c.loop-group.group-index c.group-item.result c.loop-group.text.items c.extend_from_slice.new.self.items
    c.as_slice.result.now c.in_ok-added.added.items c.loop-group-test.true c.loop-group.invariant c.group-item.is
    c.in_ok-added.ensures c.as_slice.ensures.value c.in_ok-extend_from_slice.ensures.items

pub returns : goal.returns
returns c =
    let l = c.loop-group in
    let ended = c.loop-group-test.false in
    let text = below_text (view c.args.scene.now) c.args.all in
    l.invariant
    ∙ ap (flat_map (λ g. text (groups.view g))) (take_all l.group-index c.args.groups.now (omega arith))
    ∙ flat_map_map text groups.view c.args.groups.now
