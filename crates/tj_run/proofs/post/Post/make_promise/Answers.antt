use Rattle.tj_run.proofs.Prelude.{program_of}
use Rattle.tj_run.proofs.Asks.MadePromises.{may_make_promise, promise_made}
use Rattle.tj_run.proofs.Seats.RunningTasks.{owns_some}
use Rattle.tj_run.proofs.post.Post.make_promise.Goals as goal
use Rattle.tj_base.specs.declared.cell.Sort.TheVariants as sort
use Rattle.tj_run.proofs.Seats.LogGrowth.{promise_grows, refused_grows}

pub make-requires-clause-may : goal.make-requires-clause-may
make-requires-clause-may g c κs within = let l = c.args.laid.now in let a = c.requires.asked in
    rw (c.cell-t.ensures, c.made.ensures)
    (may_make_promise (program_of g.B.Body.places g.B.Body.awaits g.B.Body.left g.B.Body.asks g.B.Body.then) l
    c.args.rec.now c.args.self.now.seat.me c.requires.runs a
    (c.points_in_rounds.ensures.ask l.strict l.root.value a.rooted)
    (c.points_in_rounds.ensures.things l.strict l.root.value a.rooted))

pub own-requires : goal.own-requires
own-requires g c = rw c.in_ok-hold.ensures.ok
    (owns_some c.args.laid.now c.args.rec.now c.args.self.now.seat.me c.requires.runs)

pub returns-clause-goes : goal.returns-clause-goes
returns-clause-goes g c = let l = c.args.laid.now in let a = c.requires.asked in
    promise_made (program_of g.B.Body.places g.B.Body.awaits g.B.Body.left g.B.Body.asks g.B.Body.then) l
    c.args.rec.now c.args.self.now.seat.me c.requires.runs a
    (c.points_in_rounds.ensures.ask l.strict l.root.value a.rooted)
    c.cell-t.result c.in_ok-c.c c.make.new.seat.me c.cell-t.ensures c.in_ok-c.ensures.made c.make.ensures.seat.2
    c.hold.new.self c.own.new.self c.count_made.new.self c.set_answer.new.self c.places-place.result
    c.places-place.ensures c.in_ok-hold.ensures.ok c.in_ok-own.ensures.ok c.count_made.ensures c.set_answer.ensures

pub returns-in_err-c-clause-log : goal.returns-in_err-c-clause-log
returns-in_err-c-clause-log g c = refused_grows c.args.self.now.seat c.make.new.seat _ c.cell-t.result.0 sort.Promise
    c.in_err-c.ensures.log_full

pub returns-in_err-hold-clause-log : goal.returns-in_err-hold-clause-log
returns-in_err-hold-clause-log g c = promise_grows c.args.self.now.seat c.make.new.seat _ _ _ c.in_ok-c.ensures.log_made

pub returns-in_err-own-clause-log : goal.returns-in_err-own-clause-log
returns-in_err-own-clause-log g c = promise_grows c.args.self.now.seat c.make.new.seat _ _ _ c.in_ok-c.ensures.log_made

pub returns-clause-log : goal.returns-clause-log
returns-clause-log g c = promise_grows c.args.self.now.seat c.make.new.seat _ _ _ c.in_ok-c.ensures.log_made
