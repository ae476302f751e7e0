use Rattle.std.proofs.Common.{subst₂, sym}
use Rattle.tj_log.specs.Asks.{AsksSplit}
use Rattle.tj_log.proofs.Keeps.{splits_allowed}
use Rattle.tj_log.proofs.table.LogTable.split_seat.Goals as goal

pub split_seat-other-requires : goal.split_seat-other-requires
split_seat-other-requires g c =
    let r = subst₂ (λ t s. AsksSplit g.P.LogRule.holds g.P.LogRule.left g.P.LogRule.right t s)
    (sym c.self.view_is) (sym c.seat.view_is) c.requires in
    (r.0, r.1, splits_allowed _ _ _ r.2)
