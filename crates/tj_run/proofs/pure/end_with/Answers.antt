use Rattle.tj_run.proofs.Prelude.{program_of}
use Rattle.tj_run.proofs.Asks.PureAsks.{end_goes}
use Rattle.tj_run.proofs.pure.end_with.Goals as goal

pub returns-clause-goes : goal.returns-clause-goes
returns-clause-goes g c =
    let b = g.B.Body in let l = c.args.laid.now in
    end_goes (program_of b.places b.awaits b.left b.asks b.then) l c.args.rec.now c.args.seat.now.me c.requires.runs
    (c.points_in_rounds.ensures.ask l.strict l.root.value c.requires.asked.rooted) c.args.v c.fill_at.result
    c.fill_at.ensures c.requires.asked
