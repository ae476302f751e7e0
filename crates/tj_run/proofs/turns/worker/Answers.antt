use Rattle.tj_run.proofs.Prelude.{more_itself, program_of, ◌∙◌}
use Rattle.tj_run.proofs.Runs.TurnSteps.{found_since, leaves_since, turns_on}
use Rattle.tj_run.proofs.Seats.WorkersSteps.{left_on}
use Rattle.tj_run.proofs.turns.worker.Goals as goal
use Rattle.tj_cells.proofs.CallLogs.{grows_on}
use Rattle.tj_run.proofs.Seats.LogGrowth.{ends_since, still}

pub loop-i-init : goal.loop-i-init
loop-i-init g c = record {
  table = c.requires.table;
  limit = c.requires.pool;
  left = record { knows = more_itself c.args.seat.me.0; free = c.requires.free };
  log = still c.args.seat;
}

pub loop-i-preserved : goal.loop-i-preserved
loop-i-preserved g c = let i = c.loop-i.invariant in let e = c.take_turn.ensures in let b = g.B.Body in
    let now = c.loop-i.post.seat.me.0 in record {
      table = e.post.0 ∙ i.table;
      limit = e.post.1 ∙ i.limit;
      left = left_on c.args.laid.now c.args.seat.me.0 now i.left.knows c.take_turn.new.self.seat.me
          (turns_on (program_of b.places b.awaits b.left b.asks b.then) c.args.laid.now c.take_turn.result
          c.in_default.is now c.take_turn.new.self.seat.me e.turns);
      log = grows_on c.args.seat c.loop-i.post.seat c.take_turn.new.self.seat i.log e.grows;
    }

pub returns-in-Some-take_turn-clause-left : goal.returns-in-Some-take_turn-clause-left
returns-in-Some-take_turn-clause-left g c = let i = c.loop-i.invariant in let b = g.B.Body in
    leaves_since (program_of b.places b.awaits b.left b.asks b.then) c.args.seat.me.0 c.loop-i.post.seat.me.0
    c.in-Some-take_turn.how i.left.knows c.take_turn.new.self.seat.me c.in-Some-take_turn.ensures.turns

pub returns-in-Some-take_turn-clause-found : goal.returns-in-Some-take_turn-clause-found
returns-in-Some-take_turn-clause-found g c = found_since c.in-Some-take_turn.how c.args.seat.me.0
    c.loop-i.post.seat.me.0 c.take_turn.new.self.seat.me.0 c.loop-i.invariant.left.knows.notes
    c.in-Some-take_turn.ensures.found

pub returns-in-Some-take_turn-clause-log : goal.returns-in-Some-take_turn-clause-log
returns-in-Some-take_turn-clause-log g c = ends_since c.in-Some-take_turn.how c.args.seat
    c.loop-i.post.seat c.take_turn.new.self.seat c.loop-i.invariant.log c.in-Some-take_turn.ensures.log
