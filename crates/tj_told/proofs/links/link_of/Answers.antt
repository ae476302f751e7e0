use Rattle.tj_told.proofs.Climbing.{grows_by, grows_on, name_where}
use Rattle.tj_told.proofs.LoggedRounds.{turn_found}
use Rattle.tj_told.proofs.Climbing.{looks_on, observes_on}
use Rattle.tj_told.proofs.Observing.{after_owner, after_phase, cell_known, task_known}
use Rattle.std.proofs.Common.{ap}
use Rattle.tj_words.specs.Steps.StepEvents.{wait_in}
use Rattle.tj_told.proofs.links.link_of.Goals as goal

pub see_owner-requires-clause-cell : goal.see_owner-requires-clause-cell
see_owner-requires-clause-cell g c κs within =
    c.see_phase.ensures.wait c.in-Waiting.cell.0 (ap wait_in c.in-Waiting.is)

pub returns-in_default : goal.returns-in_default
returns-in_default g c = let p = c.see_phase in record {
  seat = after_phase c.args.laid.now c.args.laid.now.cells c.args.t.0 p.result c.args.seat.now p.new.seat
      c.requires.seat p.ensures.seat p.ensures.view (grows_by p.ensures.log.0);
  owner = tt;
  turn = tt;
}

pub returns-in_default-see_owner-clause-seat : goal.returns-in_default-see_owner-clause-seat
returns-in_default-see_owner-clause-seat g c = let p = c.see_phase in let o = c.see_owner in
    let n = c.args.laid.now.cells in
    after_owner n c.in-Waiting.cell.0 o.result c.args.seat.now p.new.seat o.new.seat
    (after_phase c.args.laid.now n c.args.t.0 p.result c.args.seat.now p.new.seat c.requires.seat p.ensures.seat
    p.ensures.view (grows_by p.ensures.log.0)) o.ensures.seat o.ensures.view (grows_by o.ensures.log.0)

pub name_beside-requires-clause-seat : goal.name_beside-requires-clause-seat
name_beside-requires-clause-seat g c κs within = let p = c.see_phase in let o = c.see_owner in
    let n = c.args.laid.now.cells in
    observes_on c.args.laid.now c.args.seat.now o.new.seat c.requires.seat
    (after_owner n c.in-Waiting.cell.0 o.result c.args.seat.now p.new.seat o.new.seat
    (after_phase c.args.laid.now n c.args.t.0 p.result c.args.seat.now p.new.seat c.requires.seat p.ensures.seat
    p.ensures.view (grows_by p.ensures.log.0)) o.ensures.seat o.ensures.view (grows_by o.ensures.log.0))

pub name_beside-requires-clause-known : goal.name_beside-requires-clause-known
name_beside-requires-clause-known g c κs within = let p = c.see_phase in let o = c.see_owner in let w = c.in-Waiting in
    task_known c.args.laid.now c.args.laid.now.cells c.args.t.0 p.result w.cell w.field-1 w.field-2 o.result
    c.args.seat.now p.new.seat o.new.seat c.requires.seat w.is p.ensures.view o.ensures.view

pub returns-in_err-task-clause-seat : goal.returns-in_err-task-clause-seat
returns-in_err-task-clause-seat g c = let p = c.see_phase in let o = c.see_owner in let n = c.args.laid.now.cells in
    looks_on c.args.seat.now o.new.seat c.name_beside.new.seat
    (after_owner n c.in-Waiting.cell.0 o.result c.args.seat.now p.new.seat o.new.seat
    (after_phase c.args.laid.now n c.args.t.0 p.result c.args.seat.now p.new.seat c.requires.seat p.ensures.seat
    p.ensures.view (grows_by p.ensures.log.0)) o.ensures.seat o.ensures.view
    (grows_by o.ensures.log.0)) c.name_beside.ensures.seat

pub name_beside-requires-2-clause-seat : goal.name_beside-requires-2-clause-seat
name_beside-requires-2-clause-seat g c κs within = let p = c.see_phase in let o = c.see_owner in
    let n = c.args.laid.now.cells in
    observes_on c.args.laid.now c.args.seat.now c.name_beside.new.seat c.requires.seat
    (looks_on c.args.seat.now o.new.seat c.name_beside.new.seat
    (after_owner n c.in-Waiting.cell.0 o.result c.args.seat.now p.new.seat o.new.seat
    (after_phase c.args.laid.now n c.args.t.0 p.result c.args.seat.now p.new.seat c.requires.seat p.ensures.seat
    p.ensures.view (grows_by p.ensures.log.0)) o.ensures.seat o.ensures.view
    (grows_by o.ensures.log.0)) c.name_beside.ensures.seat)

pub name_beside-requires-2-clause-known : goal.name_beside-requires-2-clause-known
name_beside-requires-2-clause-known g c κs within = let p = c.see_phase in let o = c.see_owner in
    cell_known c.args.laid.now.cells c.in-Waiting.cell.0 o.result c.in-Some.owner p.new.seat o.new.seat
    c.name_beside.new.seat c.in-Some.is o.ensures.view c.name_beside.ensures.seat

pub returns-in_err-cell-clause-seat : goal.returns-in_err-cell-clause-seat
returns-in_err-cell-clause-seat g c = let p = c.see_phase in let o = c.see_owner in let n = c.args.laid.now.cells in
    looks_on c.args.seat.now c.name_beside.new.seat c.name_beside-2.new.seat
    (looks_on c.args.seat.now o.new.seat c.name_beside.new.seat
    (after_owner n c.in-Waiting.cell.0 o.result c.args.seat.now p.new.seat o.new.seat
    (after_phase c.args.laid.now n c.args.t.0 p.result c.args.seat.now p.new.seat c.requires.seat p.ensures.seat
    p.ensures.view (grows_by p.ensures.log.0)) o.ensures.seat o.ensures.view
    (grows_by o.ensures.log.0)) c.name_beside.ensures.seat) c.name_beside-2.ensures.seat

pub returns-clause-seat : goal.returns-clause-seat
returns-clause-seat g c = let p = c.see_phase in let o = c.see_owner in let n = c.args.laid.now.cells in
    looks_on c.args.seat.now c.name_beside.new.seat c.name_beside-2.new.seat
    (looks_on c.args.seat.now o.new.seat c.name_beside.new.seat
    (after_owner n c.in-Waiting.cell.0 o.result c.args.seat.now p.new.seat o.new.seat
    (after_phase c.args.laid.now n c.args.t.0 p.result c.args.seat.now p.new.seat c.requires.seat p.ensures.seat
    p.ensures.view (grows_by p.ensures.log.0)) o.ensures.seat o.ensures.view
    (grows_by o.ensures.log.0)) c.name_beside.ensures.seat) c.name_beside-2.ensures.seat

pub returns-clause-turn : goal.returns-clause-turn
returns-clause-turn g c = let p = c.see_phase in let o = c.see_owner in let w = c.in-Waiting in
    let n = c.name_beside in let m = c.name_beside-2 in
    turn_found c.args.t.0 p.result w.cell w.field-1 w.field-2 o.result c.in-Some.owner
    (record { task = c.in_ok-task.task; cell = c.in_ok-cell.cell }) c.args.seat.now.log p.new.seat.log o.new.seat.log
    m.new.seat.log m.new.seat.me.0.seen w.is p.ensures.log.0 c.in-Some.is o.ensures.log.0
    (grows_on o.new.seat.log n.new.seat.log m.new.seat.log n.ensures.seat.log m.ensures.seat.log)
    (name_where n.new.seat.me.0.seen m.new.seat.me.0.seen m.ensures.seat.more.seen c.args.t.0 c.in_ok-task.task
    c.in_ok-task.ensures.seen)
    c.in_ok-cell.ensures.seen
