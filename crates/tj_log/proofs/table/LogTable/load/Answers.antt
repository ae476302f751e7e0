use Rattle.std.proofs.Common.{subst₂, sym}
use Rattle.tj_log.specs.Asks.{Asks}
use Rattle.tj_log.specs.declared.entry.Did.TheVariants.{Load}
use Rattle.tj_log.proofs.Keeps.{steps_allowed}
use Rattle.tj_log.proofs.table.LogTable.load.Goals as goal

pub load-requires : goal.load-requires
load-requires g c =
    let r = subst₂ (λ t s. Asks g.P.LogRule.holds g.P.LogRule.tells g.M.Play.then Load 0 0 c.args.word t s)
    (sym c.self.view_is) (sym c.seat.view_is) c.requires in
    (r.0, r.1, steps_allowed _ Load 0 0 _ _ _ _ g.M.Play.then r.2 r.3 c.seat.inside.same_slots)
