use Rattle.std.proofs.Common.{ap, ◌∙◌, rules}
use Rattle.tj_body.specs.Names.{in_order}
use Rattle.tj_mean.proofs.Lists.NameOrder.{self, sorted_by, sorted_is_ordered}
use Rattle.tj_mean.proofs.held_names.sorted.Goals as goal

pub returns : goal.returns
returns c = c.of.ensures
    ∙ sorted_is_ordered c.names_and_cells.ensures.ordered c.into_vec-sorted.result.items c.sort_by.new.self.items
    c.in_ok-sort_by.ensures.permutation
    (sorted_by self c.sort_by.new.self.items c.in_ok-sort_by.ensures.sorted (λ a r q k. search rules))
    ∙ ap in_order c.into_vec-sorted.ensures
