use Rattle.tj_report.proofs.Prelude.{rules, ◌∙◌}
use Rattle.tj_mean.proofs.Lists.NameOrder.{self, sorted_by, sorted_is_ordered}
use Rattle.tj_report.proofs.cell_names.in_name_order.Goals as goal

pub returns : goal.returns
returns c = c.of.ensures
    ∙ sorted_is_ordered c.names_and_cells.ensures.ordered c.args.names.items c.sort_by.new.self.items
    c.in_ok-sort_by.ensures.permutation
    (sorted_by self c.sort_by.new.self.items c.in_ok-sort_by.ensures.sorted (λ a r q k. search rules))
