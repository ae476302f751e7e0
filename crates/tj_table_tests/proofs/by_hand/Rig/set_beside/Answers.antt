use Rattle.tj_run.proofs.Prelude.{CellId, IsFilledWith, program_of, subst, table_program}
use Rattle.tj_table_tests.proofs.OwnSets.{knows_own, wakes_own}
use Rattle.tj_table_tests.proofs.TwoTasks.{running_on}
use Rattle.tj_table_tests.proofs.by_hand.Rig.set_beside.Goals as goal

pub park_beside-requires-clause-begins : goal.park_beside-requires-clause-begins
park_beside-requires-clause-begins g c κs within = record {
  runs = c.requires.runs.runs;
  there = c.requires.child;
  rooted = c.requires.runs.running.rooted;
}

pub to_set-told-requires-clause-runs : goal.to_set-told-requires-clause-runs
to_set-told-requires-clause-runs g c κs within = let b = g.B.Body in record {
  runs = c.park_beside.ensures.runs;
  running = running_on (table_program (program_of b.places b.awaits b.left b.asks b.then) c.args.self.now.laid)
      c.args.seat.now.me.0 c.park_beside.new.seat.me.0 c.park_beside.ensures.knows c.args.root c.requires.runs.running;
}

pub fill-requires-clause-owner : goal.fill-requires-clause-owner
fill-requires-clause-owner g c κs within = rw c.cell.ensures c.to_set-told.ensures.gives

pub wake-requires-clause-may : goal.wake-requires-clause-may
wake-requires-clause-may g c κs within = let x = c.to_set-told in
    wakes_own x.ensures.runs x.result.1.0 x.result.2 x.ensures.fills c.fill.new.seat.me
    (subst (λ (z : CellId). IsFilledWith z.0 x.result.1.0 x.result.2 c.park_beside.new.seat.me.0 c.fill.new.seat.me.0)
    c.cell.ensures c.fill.ensures.view)
    c.fill.ensures.seat.2

pub returns-clause-knows : goal.returns-clause-knows
returns-clause-knows g c = let x = c.to_set-told in let woke = c.in-Ok.ensures.woke in
    knows_own x.ensures.runs x.result.1.0 x.result.2 x.ensures.fills c.fill.new.seat.me
    (subst (λ (z : CellId). IsFilledWith z.0 x.result.1.0 x.result.2 c.park_beside.new.seat.me.0 c.fill.new.seat.me.0)
    c.cell.ensures c.fill.ensures.view)
    woke.chain c.wake.new.seat.me.0 woke.woke
