use Rattle.tj_run.proofs.Prelude.{program_of}
use Rattle.tj_run.proofs.Runs.RunsAtRest.{full_told, rests_at}
use Rattle.tj_run.proofs.crew.run_all.Goals as goal

pub returns-in-Rested-clause-rest : goal.returns-in-Rested-clause-rest
returns-in-Rested-clause-rest g c = let b = g.B.Body in let made = c.in_ok-ends.ensures in let e = c.rest.ensures in
    rests_at (program_of b.places b.awaits b.left b.asks b.then) c.args.root c.args.cells c.args.strict
    c.in_ok-ends.laid made.cells made.strict made.root c.rest.result e.limit e.root e.strict e.drawn e.rest e.meaning
    e.cycles e.alarms e.meant_cycles e.values c.work_all-seat.result.0 e.run

pub returns-in-Stopped-clause-full : goal.returns-in-Stopped-clause-full
returns-in-Stopped-clause-full g c e = let b = g.B.Body in let stopped = c.in-Stopped in let all = c.work_all-seat in
    full_told (program_of b.places b.awaits b.left b.asks b.then) c.args.root c.args.cells c.args.strict all.result.1
    stopped.why stopped.is (c.fault_of.ensures e) c.in_ok-ends.seat.me all.result.0.me c.in_ok-ends.ensures.view
    all.ensures.left
