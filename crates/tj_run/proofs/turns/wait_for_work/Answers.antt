use Rattle.tj_run.proofs.Prelude.{more_itself, ◌∙◌}
use Rattle.tj_run.proofs.Seats.WorkersSteps.{left_on}
use Rattle.tj_run.proofs.turns.wait_for_work.Goals as goal

pub loop-i-init : goal.loop-i-init
loop-i-init g c = record {
  table = c.requires.table;
  left = record { knows = more_itself c.args.seat.now.me.0; free = c.requires.free };
}

pub loop-i-preserved : goal.loop-i-preserved
loop-i-preserved g c = record {
  table = c.live_tasks.ensures.table ∙ c.loop-i.invariant.table;
  left = left_on c.args.laid.now c.args.seat.now.me.0 c.loop-i.seat.me.0 c.loop-i.invariant.left.knows
      c.live_tasks.new.seat.me c.in-Ok.ensures.left;
}

pub returns-then-started-max-clause-turns : goal.returns-then-started-max-clause-turns
returns-then-started-max-clause-turns g c =
    left_on c.args.laid.now c.args.seat.now.me.0 c.loop-i.seat.me.0 c.loop-i.invariant.left.knows
    c.live_tasks.new.seat.me c.in-Ok.ensures.left
