use Rattle.std.proofs.Common.{List, Option, ℕ, ap, ◌∙◌}
use Rattle.tj_core.specs.Inner.Columns.{state_in}
use Rattle.tj_core.proofs.Columns.ColumnLists.{owner_changed}
use Rattle.tj_core.proofs.machine.Machine.set_owner.Goals as goal

pub returns-clause-state : goal.returns-clause-state
returns-clause-state c =
    let m = c.args.self.now in
    ap (λ (os : List (Option ℕ)). state_in m.births.births.items m.births.made.items os m.slots.items m.others
    m.cleared) c.set.ensures ∙ owner_changed m c.args.c c.args.now c.requires.cell
