use Rattle.std.proofs.Common.{rules, ◌≡◌, ◌↔◌, Some}
use Rattle.tj_events.specs.CoreState.{waits, parked}
use Rattle.tj_core.proofs.Columns.ColumnLists.{shows}
use Rattle.tj_core.proofs.machine.Machine.parked_on.Goals as goal

pub returns-then-t-len-clause-some : goal.returns-then-t-len-clause-some
returns-then-t-len-clause-some c k way =
    let x = c.index.result.now in
    shows c.args.self.now.slots.items c.args.t x x (search rules) c.index.ensures
    (λ st. (c.parked_on.result ≡ Some (k, way)) ↔ (st ≡ waits k way parked)) (c.parked_on.ensures.some k way)
