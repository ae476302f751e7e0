use Rattle.tj_run.proofs.Prelude.{Blocked, CellId, subst}
use Rattle.tj_events.specs.declared.walk.Way.TheVariants as way
use Rattle.tj_table_tests.proofs.by_hand.Rig.block_at.Goals as goal

pub returns-clause-view : goal.returns-clause-view
returns-clause-view g c = let v = c.block-verdict in let b = v.ensures.view in
    subst (λ (z : CellId). Blocked v.result z.0 c.args.q.0 way.Other c.args.seat.now.me.0 v.new.seat.me.0)
    c.cell.ensures (record { walker = b.walker; steps = b.steps; ends = b.ends; view = b.view })
