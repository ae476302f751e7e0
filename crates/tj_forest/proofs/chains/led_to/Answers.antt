use Rattle.std.proofs.Common.{◌∙◌}
use Rattle.tj_forest.proofs.JumpsDoubled.{jumped}
use Rattle.tj_findings.specs.Echoes.{most_doublings}
use Rattle.tj_findings.specs.Forests.{ahead}
use Rattle.tj_forest.proofs.chains.led_to.Goals as goal

pub returns : goal.returns
returns c =
    let lines = c.args.lookups.now.lines.now in
    c.line_at.ensures ∙ jumped lines (ahead lines) most_doublings c.args.jumps.now c.args.number c.requires.jumps
