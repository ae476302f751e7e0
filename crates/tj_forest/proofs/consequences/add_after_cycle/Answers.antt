use Rattle.std.proofs.Common.{ap, ◌∙◌}
use Rattle.std.proofs.lemmas.Result.{IfOk-weaker}
use Rattle.std.specs.Option.{option_map}
use Rattle.tj_trace.specs.declared.line.TraceLine.{TraceLine}
use Rattle.tj_forest.proofs.PutsAfter.{put_after_cycle}
use Rattle.tj_findings.specs.Forests.{led_to, view_forest}
use Rattle.tj_forest.proofs.consequences.add_after_cycle.Goals as goal

pub returns : goal.returns
returns c =
    let g = c.args.guide.now in
    let lines = g.lookups.lines.now in
    IfOk-weaker c.add_wait.result _ _ (λ u is fs are.
    put_after_cycle lines g.members.cycles.now c.args.line.now fs c.cause_number.result _
    (view_forest c.args.forest.now) (view_forest c.add_wait.new.forest) (c.cause_number.ensures fs are)
    (c.name_of-name.ensures
    ∙ ap (option_map (λ (l : TraceLine). l.line.name))
    (c.led_to.ensures ∙ ap (option_map (led_to lines)) c.requires.here)) is)
    c.add_wait.ensures
