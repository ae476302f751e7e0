use Rattle.tj_report.proofs.Prelude.{ap, name_text, ◌∙◌}
use Rattle.tj_report.proofs.shown_names.cut_back.Goals as goal

pub loop-at-preserved : goal.loop-at-preserved
loop-at-preserved c = c.cut_part.ensures c.in-Some.maker.now (c.loop-at.invariant ∙ ap name_text c.in-Some.ensures.some)
