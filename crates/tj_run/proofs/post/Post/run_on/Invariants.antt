use Rattle.std.proofs.Common.{◌≡◌}
use Rattle.tj_body.specs.Programs.{program_of}
use Rattle.tj_cells.specs.CallLogs.{Grows}
use Rattle.tj_run.specs.Inner.Going.{Goes}
use Rattle.tj_run.proofs.Runs.RunLoops.{asks_left}
use Rattle.tj_run.proofs.post.Post.run_on.Given as goal

-- how the task goes on since the call
abbrev pub invariant-loop-next : goal.invariant-loop-next
invariant-loop-next g l = let b = g.B.Body in record {
  table : l.self.seat.table_id ≡ l.fn.self.seat.table_id;
  limit : g.P.Pool.limit l.self.pool ≡ g.P.Pool.limit l.fn.self.pool;
  goes : Goes (program_of b.places b.awaits b.left b.asks b.then) l.laid l.next l.rec l.fn.self.seat.me.0
      l.self.seat.me;
  log : Grows l.fn.self.seat l.self.seat;
}

abbrev pub decreases-loop-next : goal.decreases-loop-next
decreases-loop-next g l = asks_left g.B.Body.left l.next l.rec
