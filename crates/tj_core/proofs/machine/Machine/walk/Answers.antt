use Rattle.std.proofs.Common.{rules, ◌≡◌}
use Rattle.std.specs.Option.{MatchOption}
use Rattle.tj_events.specs.Events.{WalksAt}
use Rattle.tj_core.proofs.Columns.ColumnLists.{shows}
use Rattle.tj_core.proofs.machine.Machine.walk.Goals as goal

pub returns-then-t-len : goal.returns-then-t-len
returns-then-t-len c =
    let x = c.index.result.now in
    shows c.args.self.now.slots.items c.args.t x x (search rules) c.index.ensures
    (λ st. MatchOption c.walk.result (¬ WalksAt st (λ k way w. Unit {0}))
    (λ read. WalksAt st (λ k way w. (w.last ≡ read.0) × (w.loads ≡ read.1)))) c.walk.ensures
