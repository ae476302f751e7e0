use Rattle.tj_report.proofs.Prelude.{name_text, rules, ◌∙◌}
use Rattle.tj_report.proofs.ShownNames.{cut_part, name_more}
use Rattle.tj_report.proofs.shown_names.cut_part.Goals as goal

pub returns : goal.returns
returns c name h = c.truncate.ensures.items
    ∙ cut_part c.args.text.now.items (name_text name) c.args.number c.saturating_sub-left.result
    (h ∙ name_more name c.args.number) (search rules)
