use Rattle.tj_report.proofs.Prelude.{sym, ◌∙◌}
use Rattle.tj_report.proofs.NamesBy.{name_root}
use Rattle.tj_report.proofs.climbed_names.name_at.Goals as goal

pub name_beside-requires-clause-name : goal.name_beside-requires-clause-name
name_beside-requires-clause-name g c κs within = let n = c.requires.named in
    c.root.ensures ∙ sym (name_root c.args.rest.now.cells n.0 n.1)
