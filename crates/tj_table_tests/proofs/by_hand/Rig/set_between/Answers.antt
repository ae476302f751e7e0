use Rattle.tj_run.proofs.Prelude.{CellId, IsFilledWith, MayParkTask, program_of, subst, sym}
use Rattle.tj_events.specs.declared.walk.Way.TheVariants as way
use Rattle.tj_table_tests.proofs.SetBeside.{SetsBeside, fills_beside, gives_beside, other_beside, parks_beside}
use Rattle.tj_table_tests.proofs.SetBeside.{slot_beside, wakes_beside}
use Rattle.tj_table_tests.proofs.ParkedBeside.{blocks_too, cell_there, task_there}
use Rattle.tj_table_tests.proofs.by_hand.Rig.set_between.Given.{Over}
use Rattle.tj_table_tests.proofs.by_hand.Rig.set_between.Goals as goal
use Rattle.tj_table_tests.proofs.by_hand.Rig.set_between.Goals.{In-Walked}

-- the child has blocked, and the root is to set the promise
sets : (g : Over) (c : In-Walked g)
    → let b = g.B.Body in let rec = c.ask_beside-rec in let set = c.to_set-told.result in
    SetsBeside (program_of b.places b.awaits b.left b.asks b.then) c.args.self.now.laid set.0 rec.result.0 rec.result.1
    rec.result.2 c.to_fork-root.new.seat.me rec.new.seat.me c.block_at-verdict.new.seat.me set.1.0 set.2
sets g c = let k = c.block_at-verdict in let set = c.to_set-told in record {
  waits = c.ask_beside-rec.ensures.waits;
  ended = k.result;
  walked = c.in-Walked.is;
  blocked = k.ensures.view;
  same = k.ensures.seat.2;
  gives = set.ensures.gives;
  fills = set.ensures.fills;
}

pub ask_beside-rec-requires-clause-begins : goal.ask_beside-rec-requires-clause-begins
ask_beside-rec-requires-clause-begins g c κs within = record {
  runs = c.to_set-told.ensures.runs;
  there = c.requires.cells;
  rooted = c.requires.begins.rooted;
}

pub block_at-verdict-requires-clause-task : goal.block_at-verdict-requires-clause-task
block_at-verdict-requires-clause-task g c κs within = task_there c.ask_beside-rec.ensures.waits

pub block_at-verdict-requires-clause-cell : goal.block_at-verdict-requires-clause-cell
block_at-verdict-requires-clause-cell g c κs within = cell_there c.ask_beside-rec.ensures.waits

pub block_at-verdict-requires-clause-may : goal.block_at-verdict-requires-clause-may
block_at-verdict-requires-clause-may g c κs within = blocks_too c.ask_beside-rec.ensures.waits

pub fill-requires-clause-owner : goal.fill-requires-clause-owner
fill-requires-clause-owner g c κs within =
    rw c.cell.ensures (gives_beside (sets g (goal.at.fill-requires-clause-owner g c).In-Walked))

pub fill-requires-clause-value : goal.fill-requires-clause-value
fill-requires-clause-value g c κs within =
    fills_beside (sets g (goal.at.fill-requires-clause-value g c).In-Walked)

pub wake-requires-clause-may : goal.wake-requires-clause-may
wake-requires-clause-may g c κs within = let set = sets g (goal.at.wake-requires-clause-may g c).In-Walked in
    wakes_beside set c.fill.new.seat.me
    (subst (λ (z : CellId). IsFilledWith z.0 c.to_set-told.result.1.0 c.to_set-told.result.2
    c.block_at-verdict.new.seat.me.0 c.fill.new.seat.me.0) c.cell.ensures c.fill.ensures.view)
    c.fill.ensures.seat.2

pub park-requires-clause-task : goal.park-requires-clause-task
park-requires-clause-task g c κs within = rw c.cell-t.ensures (task_there c.ask_beside-rec.ensures.waits)

pub park-requires-clause-cell : goal.park-requires-clause-cell
park-requires-clause-cell g c κs within = cell_there c.ask_beside-rec.ensures.waits

pub park-requires-clause-slot : goal.park-requires-clause-slot
park-requires-clause-slot g c κs within = let set = sets g (goal.at.park-requires-clause-slot g c).In-Walked in
    let woke = c.in-Ok-eq0.ensures.woke in
    rw c.cell-t.ensures (slot_beside set c.fill.new.seat.me
    (subst (λ (z : CellId). IsFilledWith z.0 c.to_set-told.result.1.0 c.to_set-told.result.2
    c.block_at-verdict.new.seat.me.0 c.fill.new.seat.me.0) c.cell.ensures c.fill.ensures.view)
    c.fill.ensures.seat.2 woke.chain c.wake.new.seat.me woke.woke
    c.wake.ensures.seat.2)

pub park-requires-clause-others : goal.park-requires-clause-others
park-requires-clause-others g c κs within = let set = sets g (goal.at.park-requires-clause-others g c).In-Walked in
    let woke = c.in-Ok-eq0.ensures.woke in
    other_beside set c.fill.new.seat.me
    (subst (λ (z : CellId). IsFilledWith z.0 c.to_set-told.result.1.0 c.to_set-told.result.2
    c.block_at-verdict.new.seat.me.0 c.fill.new.seat.me.0) c.cell.ensures c.fill.ensures.view)
    c.fill.ensures.seat.2 woke.chain c.wake.new.seat.me
    woke.woke c.wake.ensures.seat.2

pub park-requires-clause-may : goal.park-requires-clause-may
park-requires-clause-may g c κs within = let set = sets g (goal.at.park-requires-clause-may g c).In-Walked in
    let b = g.B.Body in let woke = c.in-Ok-eq0.ensures.woke in let rec = c.ask_beside-rec.result in
    rw c.cell-t.ensures
    (subst (λ r. MayParkTask (program_of b.places b.awaits b.left b.asks b.then) rec.0.cell.0 rec.2.cell.0 way.Other r
    c.wake.new.seat.me.0) (sym c.block_at-verdict.ensures.rec)
    (parks_beside set c.fill.new.seat.me
    (subst (λ (z : CellId). IsFilledWith z.0 c.to_set-told.result.1.0 c.to_set-told.result.2
    c.block_at-verdict.new.seat.me.0 c.fill.new.seat.me.0) c.cell.ensures c.fill.ensures.view)
    c.fill.ensures.seat.2 woke.chain c.wake.new.seat.me
    woke.woke c.wake.ensures.seat.2))

pub value-requires-clause-cell : goal.value-requires-clause-cell
value-requires-clause-cell g c κs within = cell_there c.ask_beside-rec.ensures.waits
