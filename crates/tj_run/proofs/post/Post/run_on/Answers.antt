use Rattle.tj_run.proofs.Prelude.{program_of, ◌∙◌}
use Rattle.tj_run.proofs.Seats.WorkersSteps.{goes_since, lacks_on}
use Rattle.tj_run.proofs.post.Post.run_on.Goals as goal
use Rattle.tj_cells.proofs.CallLogs.{grows_on}

pub loop-next-preserved : goal.loop-next-preserved
loop-next-preserved g c =
    let b = g.B.Body in let loop = c.loop-next in let done = c.in_ok-next-in-Runs in record {
      table = done.ensures.stays.0.0 ∙ loop.invariant.table;
      limit = done.ensures.stays.0.1 ∙ loop.invariant.limit;
      goes = goes_since (program_of b.places b.awaits b.left b.asks b.then) c.args.laid.now done.next c.one_ask.new.rec
          c.args.self.now.seat.me.0 loop.self.seat.me.0 loop.invariant.goes.knows c.one_ask.new.self.seat.me
          done.ensures.goes;
      log = grows_on c.args.self.now.seat loop.self.seat c.one_ask.new.self.seat loop.invariant.log
          c.one_ask.ensures.log;
    }

pub returns-in_err-next-in-Runs-clause-stays : goal.returns-in_err-next-in-Runs-clause-stays
returns-in_err-next-in-Runs-clause-stays g c = (
  (
    c.in_err-next-in-Runs.ensures.stays.0.0 ∙ c.loop-next.invariant.table,
    c.in_err-next-in-Runs.ensures.stays.0.1 ∙ c.loop-next.invariant.limit,
  ),
  lacks_on c.in_err-next-in-Runs.field-0.0 c.args.self.now.seat.me.0 c.loop-next.self.seat.me.0
      c.one_ask.new.self.seat.me.0
      c.loop-next.invariant.goes.knows c.in_err-next-in-Runs.ensures.stays.1 c.from_residual-in_err-next-in-Runs.result
      c.from_residual-in_err-next-in-Runs.ensures.1,
)

pub returns-in_err-next-in-Runs-clause-log : goal.returns-in_err-next-in-Runs-clause-log
returns-in_err-next-in-Runs-clause-log g c = grows_on c.args.self.now.seat c.loop-next.self.seat c.one_ask.new.self.seat
    c.loop-next.invariant.log c.one_ask.ensures.log
