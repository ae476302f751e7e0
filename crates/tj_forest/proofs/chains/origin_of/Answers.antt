use Rattle.std.proofs.Common.{◌∙◌, None, ap, get_or}
use Rattle.std.specs.Prelude.{option_and_then, slice_get}
use Rattle.tj_forest.proofs.JumpsDoubled.{onward_is, step_found}
use Rattle.tj_findings.specs.Echoes.{back, most_doublings}
use Rattle.tj_forest.specs.Inner.Jumps.{jump}
use Rattle.tj_forest.proofs.chains.origin_of.Goals as goal

pub returns : goal.returns
returns c =
    let lines = c.args.lookups.now.lines.now in
    let steps = c.args.back.now in
    let n = c.args.number in
    c.line_from.ensures
    ∙ ap (option_and_then (λ i. slice_get lines (jump c.args.jumps.now i))) c.step.ensures
    ∙ onward_is lines (back lines) most_doublings c.args.jumps.now (get_or steps n None)
    (option_and_then (back lines) (slice_get lines n)) c.requires.jumps
    (step_found lines (back lines) steps n c.requires.back)
