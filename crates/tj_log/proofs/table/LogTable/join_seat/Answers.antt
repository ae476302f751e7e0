use Rattle.tj_log.proofs.Keeps.{join_asked, joins_allowed, none_left}
use Rattle.tj_log.proofs.table.LogTable.join_seat.Goals as goal

pub join_seat-requires : goal.join_seat-requires
join_seat-requires g c =
    let r = join_asked g.P.LogRule.holds g.P.LogRule.both g.P.LogRule.spent g.P.LogRule.may_join c.self.view_is
    c.seat.view_is c.other.view_is c.requires in (
      r.0,
      r.1,
      r.2,
      r.3,
      joins_allowed _ _ _ c.seat.inside.seat.me.0 c.other.inside.seat.me.0 r.4 r.5
          (none_left _ _ c.other.inside.same_slots r.2),
    )
