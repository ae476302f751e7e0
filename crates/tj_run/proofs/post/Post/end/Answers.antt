use Rattle.tj_run.proofs.Prelude.{program_of}
use Rattle.tj_run.proofs.Runs.EndConditions.{may_finish}
use Rattle.tj_park.proofs.EndLogs.{end_grows, fails_grow}
use Rattle.tj_run.proofs.post.Post.end.Goals as goal

pub finish-requires-clause-may : goal.finish-requires-clause-may
finish-requires-clause-may g c κs within = let b = g.B.Body in
    rw (c.cell-t.ensures, c.set_finish.ensures)
    (may_finish (program_of b.places b.awaits b.left b.asks b.then) c.args.laid.now c.args.rec c.args.ending
    c.args.self.now.seat.me c.requires.runs c.requires.closing)

pub returns-in_err-finish-clause-log : goal.returns-in_err-finish-clause-log
returns-in_err-finish-clause-log g c =
    fails_grow _ _ _ _ c.args.self.now.seat c.finish.new.seat _ _ c.in_err-finish.ensures.memory

pub returns-clause-log : goal.returns-clause-log
returns-clause-log g c = end_grows _ _ _ c.args.self.now.seat c.finish.new.seat _ _ c.in_ok-finish.ensures.steps
