use Rattle.std.proofs.Common.{subst₂}
use Rattle.std.specs.Slots.{slots_items}
use Rattle.atomic_table.specs.Table.{Final, Seen}
use Rattle.tj_log.specs.Asks.{Ended}
use Rattle.tj_log.specs.Runs.{terms_of}
use Rattle.tj_log.proofs.Keeps.{final_own, final_run}
use Rattle.tj_log.proofs.table.LogTable.close_with.Goals as goal

pub returns-clause-values : goal.returns-clause-values
returns-clause-values g c = let v = c.close_with.ensures.values in (
  v.0,
  v.1,
  subst₂ (λ t s. Final (Seen (g.P.LogRule.holds t.shared.key) s.id s.me.0)
      (slots_items c.close_with.result.words) (slots_items c.close_with.result.slots))
      c.self.view_is c.seat.view_is (final_own _ _ _ _ v.2),
)

pub returns-clause-run : goal.returns-clause-run
returns-clause-run g c =
    subst₂ (λ t s. Ended (terms_of (g.P.LogRule.holds t.shared.key) (g.P.LogRule.tells t.shared.key) g.P.LogRule.left
    g.P.LogRule.right g.P.LogRule.both g.P.LogRule.spent (g.P.LogRule.opens t.shared.key) (g.P.LogRule.first
    t.shared.key) g.P.LogRule.may_join)
    s (slots_items c.close_with.result.words) (slots_items c.close_with.result.slots))
    c.self.view_is c.seat.view_is (final_run c.seat.inside.seat.table_id _ c.seat.inside.seat.me _ _
    c.close_with.ensures.values.2)
