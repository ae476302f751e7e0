use Rattle.tj_park.proofs.Prelude.{MayCloseResult, program_of, subst}
use Rattle.tj_park.proofs.finishes.close_result.Goals as goal

pub close_by-requires-clause-may : goal.close_by-requires-clause-may
close_by-requires-clause-may g c κs within = subst (λ o. MayCloseResult
    (program_of g.B.Body.places g.B.Body.awaits g.B.Body.left g.B.Body.asks g.B.Body.then) c.args.t.0 o
    c.args.seat.now.me.0) c.in-Some.is c.requires.may
