use Rattle.tj_run.proofs.Prelude.{Blocked, CellId, Held, ap, program_of, subst, way_by, ◌∙◌}
use Rattle.tj_run.proofs.Waiting.WaitConditions.{IsToWait, block_then, held_as, knows_task, place_inside, task_cell}
use Rattle.tj_run.proofs.Waiting.WaitConditions.{wait_cell}
use Rattle.tj_run.proofs.waits.block_at.Given.{Over}
use Rattle.tj_run.proofs.waits.block_at.Goals as goal
use Rattle.tj_run.proofs.waits.block_at.Goals.{After-at-h}
use Rattle.tj_cells.proofs.CallLogs.{grows_on}
use Rattle.tj_run.proofs.Seats.LogGrowth.{block_grows}

-- the task is to wait for the cell at the place
to_wait : (g : Over) (c : After-at-h g)
    → let b = g.B.Body in let a = c.args in
    IsToWait (program_of b.places b.awaits b.left b.asks b.then) a.laid.now a.rec.now a.place a.spare a.seat.now.me
    c.at-h.result
to_wait g c = record {
  runs = c.requires.runs;
  waits = c.requires.waiting;
  is = c.at-h.ensures;
}

pub at-h-requires : goal.at-h-requires
at-h-requires g c = let b = g.B.Body in let a = c.args in
    place_inside (program_of b.places b.awaits b.left b.asks b.then) a.laid.now a.rec.now a.place a.spare
    a.seat.now.me c.requires.runs c.requires.waiting

pub way_to-way-requires-clause-task : goal.way_to-way-requires-clause-task
way_to-way-requires-clause-task g c κs within =
    rw c.cell-t.ensures (task_cell (to_wait g (goal.at.way_to-way-requires-clause-task g c).After-at-h))

pub way_to-way-requires-clause-cell : goal.way_to-way-requires-clause-cell
way_to-way-requires-clause-cell g c κs within =
    wait_cell (to_wait g (goal.at.way_to-way-requires-clause-cell g c).After-at-h)

pub way_to-way-requires-clause-task_known : goal.way_to-way-requires-clause-task_known
way_to-way-requires-clause-task_known g c κs within =
    rw c.cell-t.ensures (knows_task (to_wait g (goal.at.way_to-way-requires-clause-task_known g c).After-at-h))

pub way_to-way-requires-clause-held : goal.way_to-way-requires-clause-held
way_to-way-requires-clause-held g c κs within =
    held_as (to_wait g (goal.at.way_to-way-requires-clause-held g c).After-at-h)

pub block-verdict-requires-clause-task : goal.block-verdict-requires-clause-task
block-verdict-requires-clause-task g c κs within =
    rw c.cell-t.ensures (task_cell (to_wait g (goal.at.block-verdict-requires-clause-task g c).After-at-h))

pub block-verdict-requires-clause-cell : goal.block-verdict-requires-clause-cell
block-verdict-requires-clause-cell g c κs within =
    wait_cell (to_wait g (goal.at.block-verdict-requires-clause-cell g c).After-at-h)

pub block-verdict-requires-clause-may : goal.block-verdict-requires-clause-may
block-verdict-requires-clause-may g c κs within =
    let at = goal.at.block-verdict-requires-clause-may g c in
    let y = c.way_to-way in
    rw c.cell-t.ensures (block_then (to_wait g at.After-at-h) y.new.seat.me y.ensures.view y.ensures.seat.2 y.result
    (y.ensures.way ∙ ap (λ (t : CellId). way_by y.new.seat.me.0.born t.0 c.at-h.result.cell.0) c.cell-t.ensures))

pub returns-clause-task : goal.returns-clause-task
returns-clause-task g c =
    rw c.set_wait.ensures (task_cell (to_wait g (goal.at.returns-clause-task g c).After-at-h))

pub returns-clause-cell : goal.returns-clause-cell
returns-clause-cell g c = wait_cell (to_wait g (goal.at.returns-clause-cell g c).After-at-h)

pub returns-clause-blocked : goal.returns-clause-blocked
returns-clause-blocked g c = let y = c.way_to-way in let z = c.block-verdict in record {
  before = c.args.rec.now;
  place = c.args.place;
  spare = c.args.spare;
  runs = c.requires.runs;
  waits = c.requires.waiting;
  record_is = c.set_wait.ensures;
  cell_is = ap (λ (z : Held). z.cell.0) c.at-h.ensures;
  looked = y.new.seat.me;
  read = y.ensures.view;
  looked_slots = y.ensures.seat.2;
  blocked = subst (λ (h : Held). Blocked z.result c.args.rec.now.cell.0 h.cell.0 y.result
      y.new.seat.me.0 z.new.seat.me.0) c.at-h.ensures
      (subst (λ (t : CellId). Blocked z.result t.0 c.at-h.result.cell.0 y.result y.new.seat.me.0 z.new.seat.me.0)
      c.cell-t.ensures (record {
        walker = z.ensures.view.walker;
        steps = z.ensures.view.steps;
        ends = z.ensures.view.ends;
        view = z.ensures.view.view;
      }));
  slots = z.ensures.seat.2;
}

pub returns-clause-log : goal.returns-clause-log
returns-clause-log g c = let y = c.way_to-way in let z = c.block-verdict in
    grows_on c.args.seat.now y.new.seat z.new.seat y.ensures.log (block_grows y.new.seat z.new.seat
    c.args.laid.now.cells c.cell-t.result.0 c.at-h.result.cell y.result z.result z.ensures.log)

pub returns-clause-kept : goal.returns-clause-kept
returns-clause-kept g c = c.set_wait.ensures
