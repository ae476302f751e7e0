use Rattle.std.proofs.Common.{sym, ◌∙◌, subst}
use Rattle.tj_body.specs.Programs.{program_of}
use Rattle.tj_future.specs.LookLogs.{MakesLook}
use Rattle.tj_future.proofs.Polling.{given_before, given_now, if_pending}
use Rattle.tj_future.proofs.polls.CellWaitFuture.poll.Goals as goal

pub returns-in-None-clause-same : goal.returns-in-None-clause-same
returns-in-None-clause-same g c = let b = g.B.Body in let e = c.look.ensures in
    if_pending c.yield_now.result _ (λ given h. given_before (program_of b.places b.awaits b.left b.asks b.then)
    c.args.self.now.laid.now c.args.self.now.p.0 c.args.self.now.seat c.in-Some.seat c.look.new.seat
    (sym c.take.ensures.value ∙ c.in-Some.is) e.seat.0 e.lot (e.none c.in-None.is)
    (subst (λ a. MakesLook c.args.self.now.p.0 a c.in-Some.seat c.look.new.seat) c.in-None.is e.log) given.0 given.1 h)

pub returns-in-Some-look-clause-value : goal.returns-in-Some-look-clause-value
returns-in-Some-look-clause-value g c = let b = g.B.Body in let e = c.look.ensures in
    given_now (program_of b.places b.awaits b.left b.asks b.then) c.args.self.now.laid.now c.args.self.now.p.0
    c.args.self.now.seat c.in-Some.seat c.look.new.seat (sym c.take.ensures.value ∙ c.in-Some.is) e.seat.0 e.idle
    e.slots e.lot c.in-Some-look.watched c.in-Some-look.ensures.some c.in-Some-look.ensures.log
