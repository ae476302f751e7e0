use Rattle.tj_run.proofs.Prelude.{IsAsked, Rec, RunsTask, program_of, subst, sym, table_program}
use Rattle.tj_run.proofs.Asks.NextAsks.{asked_next, few_places, fits_record}
use Rattle.tj_table_tests.proofs.ParkedBeside.{runs_body}
use Rattle.tj_table_tests.proofs.by_hand.Rig.ask.Goals as goal

pub next-requires-clause-fits : goal.next-requires-clause-fits
next-requires-clause-fits g c κs within =
    let b = g.B.Body in let l = c.args.self.now.laid in let h = c.requires.runs.running in
    fits_record (table_program (program_of b.places b.awaits b.left b.asks b.then) l)
    (c.points_in_rounds.ensures.good l.strict l.root.value h.rooted) c.args.seat.now.me.0 c.args.rec h

pub next-requires-clause-room : goal.next-requires-clause-room
next-requires-clause-room g c κs within =
    let b = g.B.Body in let l = c.args.self.now.laid in let h = c.requires.runs.running in
    few_places (table_program (program_of b.places b.awaits b.left b.asks b.then) l)
    (c.points_in_rounds.ensures.good l.strict l.root.value h.rooted) c.args.seat.now.me.0 c.args.rec h

pub returns-clause-runs : goal.returns-clause-runs
returns-clause-runs g c = let l = c.args.self.now.laid in let me = c.args.seat.now.me in
    subst (λ (q : Rec g.row.B.Denot). RunsTask l q me) (sym c.next.ensures.others)
    (runs_body l c.args.rec c.next.new.self.body me c.requires.runs.runs)

pub returns-clause-asked : goal.returns-clause-asked
returns-clause-asked g c = let b = g.B.Body in let l = c.args.self.now.laid in let h = c.requires.runs.running in
    let program = table_program (program_of b.places b.awaits b.left b.asks b.then) l in
    subst (λ (q : Rec g.row.B.Denot). IsAsked program c.args.seat.now.me.0 q c.in-Ok.asked)
    (sym c.next.ensures.others)
    (asked_next program (c.points_in_rounds.ensures.good l.strict l.root.value h.rooted) c.args.seat.now.me.0
    c.args.rec h c.in-Ok.asked c.next.new.self.body c.in-Ok.ensures.ask c.in-Ok.ensures.body
    (c.points_in_rounds.ensures.placed l.strict l.root.value h.rooted))
