use Rattle.tj_run.proofs.Prelude.{[], ap, program_of, to_z-of_z, w64, ◌++◌, ◌∷◌}
use Rattle.tj_run.proofs.Asks.PureAsks.{emit_goes}
use Rattle.tj_run.proofs.pure.emit.Goals as goal

pub returns-clause-goes : goal.returns-clause-goes
returns-clause-goes g c =
    let b = g.B.Body in let l = c.args.laid.now in
    rw (c.set_answer.ensures, c.in_ok-print.ensures.ok)
    (emit_goes (program_of b.places b.awaits b.left b.asks b.then) l c.args.rec.now c.args.seat.now.me c.requires.runs
    (c.points_in_rounds.ensures.ask l.strict l.root.value c.requires.asked.rooted) c.args.number
    _ (ap (λ z. c.args.rec.now.prints ++ z ∷ []) (to_z-of_z w64 c.args.number c.ranges.number)) c.requires.asked)
