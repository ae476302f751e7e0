use Rattle.std.proofs.Common.{◌≡◌}
use Rattle.tj_body.specs.Programs.{program_of}
use Rattle.tj_cells.specs.CallLogs.{Grows}
use Rattle.tj_run.specs.Inner.Waits.{ComesBack}
use Rattle.tj_run.proofs.post.Post.run.Given as goal

-- the task has come back each time
abbrev pub invariant-loop-i : goal.invariant-loop-i
invariant-loop-i g l = let b = g.B.Body in record {
  table : l.self.seat.table_id ≡ l.fn.self.seat.table_id;
  limit : g.P.Pool.limit l.self.pool ≡ g.P.Pool.limit l.fn.self.pool;
  back : ComesBack (program_of b.places b.awaits b.left b.asks b.then) l.laid l.rec l.fn.self.seat.me.0 l.self.seat.me;
  log : Grows l.fn.self.seat l.self.seat;
}
