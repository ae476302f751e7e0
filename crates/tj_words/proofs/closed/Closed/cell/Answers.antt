use Rattle.tj_words.proofs.Prelude.{IsShown, length, subst, sym, ◌<◌}
use Rattle.atomic_table.proofs.Lists.{at_index}
use Rattle.tj_words.proofs.closed.Closed.cell.Goals as goal

pub returns : goal.returns
returns c = subst (λ l. IsShown l c.args.c.0 c.index.result.now) c.self.view_is
    (at_index c.self.inside.cells.items c.args.c.0 c.index.result.now
    (subst (λ l. c.args.c.0 < length l) (sym c.self.view_is) c.requires) c.index.ensures)
