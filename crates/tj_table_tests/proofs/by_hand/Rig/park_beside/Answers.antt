use Rattle.tj_run.proofs.Prelude.{CellId, LeftTask, MayParkTask, program_of, subst, sym}
use Rattle.tj_events.specs.declared.walk.Way.TheVariants as way
use Rattle.tj_table_tests.proofs.ParkedBeside.{blocks_too, cell_there, knows_on, no_other, parks_too, runs_on_still}
use Rattle.tj_table_tests.proofs.ParkedBeside.{slot_first, task_there}
use Rattle.tj_table_tests.proofs.by_hand.Rig.park_beside.Goals as goal

pub block_at-verdict-requires-clause-task : goal.block_at-verdict-requires-clause-task
block_at-verdict-requires-clause-task g c κs within =
    task_there c.ask_beside-told.ensures.waits

pub block_at-verdict-requires-clause-cell : goal.block_at-verdict-requires-clause-cell
block_at-verdict-requires-clause-cell g c κs within =
    cell_there c.ask_beside-told.ensures.waits

pub block_at-verdict-requires-clause-may : goal.block_at-verdict-requires-clause-may
block_at-verdict-requires-clause-may g c κs within =
    blocks_too c.ask_beside-told.ensures.waits

pub park-requires-clause-task : goal.park-requires-clause-task
park-requires-clause-task g c κs within =
    rw c.cell-t.ensures (task_there c.ask_beside-told.ensures.waits)

pub park-requires-clause-cell : goal.park-requires-clause-cell
park-requires-clause-cell g c κs within =
    cell_there c.ask_beside-told.ensures.waits

pub park-requires-clause-slot : goal.park-requires-clause-slot
park-requires-clause-slot g c κs within =
    let x = c.ask_beside-told in let k = c.block_at-verdict in
    rw c.cell-t.ensures
    (slot_first x.ensures.waits k.new.seat.me k.result c.in-Walked.is k.ensures.view k.ensures.seat.2)

pub park-requires-clause-others : goal.park-requires-clause-others
park-requires-clause-others g c κs within =
    let x = c.ask_beside-told in let k = c.block_at-verdict in
    no_other x.ensures.waits k.new.seat.me k.result c.in-Walked.is k.ensures.view k.ensures.seat.2

pub park-requires-clause-may : goal.park-requires-clause-may
park-requires-clause-may g c κs within =
    let b = g.B.Body in let x = c.ask_beside-told in let k = c.block_at-verdict in
    rw c.cell-t.ensures
    (subst (λ r. MayParkTask (program_of b.places b.awaits b.left b.asks b.then) x.result.0.cell.0 x.result.2.cell.0
    way.Other r k.new.seat.me.0) (sym k.ensures.rec)
    (parks_too x.ensures.waits k.new.seat.me k.result c.in-Walked.is k.ensures.view k.ensures.seat.2))

pub returns-clause-knows : goal.returns-clause-knows
returns-clause-knows g c = let x = c.ask_beside-told in let k = c.block_at-verdict in
    knows_on x.ensures.waits k.new.seat.me k.result c.in-Walked.is k.ensures.view k.ensures.seat.2 c.park.new.seat.me
    (subst (λ (z : CellId). LeftTask c.args.self.now.laid.cells z.0 k.new.seat.me.0 c.park.new.seat.me.0)
    c.cell-t.ensures
    c.in-Left.ensures.left) c.in-Left.ensures.left_slot

pub returns-clause-runs : goal.returns-clause-runs
returns-clause-runs g c = let x = c.ask_beside-told in let k = c.block_at-verdict in
    runs_on_still x.ensures.waits k.new.seat.me k.result c.in-Walked.is k.ensures.view k.ensures.seat.2
    c.park.new.seat.me
    (subst (λ (z : CellId). LeftTask c.args.self.now.laid.cells z.0 k.new.seat.me.0 c.park.new.seat.me.0)
    c.cell-t.ensures
    c.in-Left.ensures.left) c.in-Left.ensures.left_slot
