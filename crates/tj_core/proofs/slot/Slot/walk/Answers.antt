use Rattle.std.proofs.Common.{rules, refl, ◌≡◌}
use Rattle.tj_core.proofs.Columns.Slots.{walks_at}
use Rattle.tj_core.proofs.slot.Slot.walk.Goals as goal

pub returns-in-Waiting-default-default-Walking : goal.returns-in-Waiting-default-default-Walking
returns-in-Waiting-default-default-Walking c =
    let s = c.args.self.now in let w = c.in-Waiting-default-default-Walking in
    walks_at s.trail.items s.bound s.loads s.stage w.field-0 w.field-1 w.last
    (λ k way v. (v.last ≡ w.last) × (v.loads ≡ s.loads)) (search rules) (refl, refl)
