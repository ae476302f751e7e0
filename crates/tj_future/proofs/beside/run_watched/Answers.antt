use Rattle.std.proofs.Common.{false}
use Rattle.tj_body.specs.Programs.{program_of}
use Rattle.tj_run.proofs.Runs.RunsAtRest.{full_told, rests_at}
use Rattle.tj_future.proofs.ClosedAnswers.{root_closed}
use Rattle.tj_future.proofs.EndedWatches.{ends_watched, rest_may}
use Rattle.tj_future.proofs.beside.run_watched.Goals as goal

pub returns-in-Rested-clause-rest : goal.returns-in-Rested-clause-rest
returns-in-Rested-clause-rest g c = let b = g.B.Body in let made = c.in_ok-ends.ensures in let e = c.rest.ensures in
    rests_at (program_of b.places b.awaits b.left b.asks b.then) c.args.root c.args.cells false c.in_ok-ends.laid
    made.cells made.strict made.root c.rest.result e.limit e.root e.strict e.drawn e.rest e.meaning e.cycles e.alarms
    e.meant_cycles e.values c.work_watched-seat.result.0 e.run

pub returns-in-Rested-clause-run : goal.returns-in-Rested-clause-run
returns-in-Rested-clause-run g c = let b = g.B.Body in let made = c.in_ok-ends.ensures in
    let all = c.work_watched-seat in
    ends_watched (program_of b.places b.awaits b.left b.asks b.then) c.args.root c.args.cells false c.in_ok-ends.laid
    made.cells made.strict made.root 0 all.result.2 all.result.1 c.in_ok-ends.seat.me made.view all.result.0
    all.ensures.watched c.in-Rested.is c.rest.result c.rest.ensures.run

pub returns-in-Rested-clause-watched : goal.returns-in-Rested-clause-watched
returns-in-Rested-clause-watched g c = let b = g.B.Body in let made = c.in_ok-ends.ensures in
    let all = c.work_watched-seat in
    let watched = all.ensures.watched in let is = c.in-Rested.is in
    root_closed c.rest.ensures.run.ends
    (rest_may (program_of b.places b.awaits b.left b.asks b.then) c.in_ok-ends.seat.me made.view all.result.0.me is
    all.ensures.left)
    watched.given (watched.taken is).2 all.result.2 c.in_ok-ends.seat.me.0 watched.watch (watched.runs_on is)

pub returns-in-Stopped-clause-full : goal.returns-in-Stopped-clause-full
returns-in-Stopped-clause-full g c e = let b = g.B.Body in let stopped = c.in-Stopped in
    let all = c.work_watched-seat in
    full_told (program_of b.places b.awaits b.left b.asks b.then) c.args.root c.args.cells false all.result.1
    stopped.why stopped.is (c.fault_of.ensures e) c.in_ok-ends.seat.me all.result.0.me c.in_ok-ends.ensures.view
    all.ensures.left
