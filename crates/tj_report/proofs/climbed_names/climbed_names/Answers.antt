use Rattle.tj_report.proofs.Prelude.{[], arith, sym, to_task, ◌∙◌}
use Rattle.tj_report.proofs.CellIndexes.{within}
use Rattle.tj_report.proofs.NamesBy.{name_root}
use Rattle.tj_report.proofs.climbed_names.climbed_names.Goals as goal

pub loop-c-init : goal.loop-c-init
loop-c-init g c = let n = c.requires.named in let all = n.1.all in let some = within n.0 0 (to_task []) n.1.root in (
  c.new-list.ensures.items,
  omega arith,
  c.root-name.ensures ∙ sym (name_root c.args.rest.now.cells n.0 n.1),
)
