use Rattle.std.proofs.Common.{◌∙◌, ap, sym}
use Rattle.std.specs.Prelude.{option_and_then, slice_get}
use Rattle.std.specs.Option.{option_map}
use Rattle.tj_forest.proofs.ChainsBegun.{begun_on, broken_by}
use Rattle.tj_forest.proofs.JumpsDoubled.{jumped, stepped}
use Rattle.tj_findings.specs.Echoes.{back, most_doublings}
use Rattle.tj_findings.specs.Forests.{echo_before}
use Rattle.tj_forest.specs.Inner.Jumps.{jump}
use Rattle.tj_forest.proofs.chains.begun_by.Goals as goal

pub returns : goal.returns
returns c =
    let lines = c.args.lookups.now.lines.now in
    let js = c.args.jumps.now in
    let n = c.args.number in
    let first = c.in_ok-first.first.now in
    let broke = option_map (λ line. line.now) c.line_with-broke.result in
    c.begun_at.ensures
    ∙ broken_by lines first broke
    (stepped lines (back lines) c.args.back.now (jump js n) c.jump.result c.step.result broke c.requires.back
    c.step.ensures c.jump.ensures c.line_with-broke.ensures
    ∙ ap (option_and_then (back lines)) (sym c.in_ok-first.ensures))
    ∙ begun_on lines (slice_get lines n) first
    (c.in_ok-first.ensures ∙ jumped lines (echo_before lines) most_doublings js n c.requires.jumps)
