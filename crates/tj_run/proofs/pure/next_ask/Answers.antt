use Rattle.tj_run.proofs.Prelude.{IsAsked, Rec, RunsTask, program_of, refl, subst, sym, table_program}
use Rattle.tj_run.proofs.Asks.NextAsks.{asked_next, falls_next, few_places, fits_record}
use Rattle.tj_run.proofs.Seats.RunningTasks.{runs_too}
use Rattle.tj_run.proofs.pure.next_ask.Goals as goal

pub next-requires-clause-fits : goal.next-requires-clause-fits
next-requires-clause-fits g c κs within =
    let b = g.B.Body in let l = c.args.laid.now in
    let program = table_program (program_of b.places b.awaits b.left b.asks b.then) l in
    fits_record program (c.points_in_rounds.ensures.good l.strict l.root.value c.requires.running.rooted)
    c.args.seat.now.me.0 c.args.rec.now c.requires.running

pub next-requires-clause-room : goal.next-requires-clause-room
next-requires-clause-room g c κs within =
    let b = g.B.Body in let l = c.args.laid.now in
    let program = table_program (program_of b.places b.awaits b.left b.asks b.then) l in
    few_places program (c.points_in_rounds.ensures.good l.strict l.root.value c.requires.running.rooted)
    c.args.seat.now.me.0 c.args.rec.now c.requires.running

pub returns-clause-asked : goal.returns-clause-asked
returns-clause-asked g c =
    let b = g.B.Body in let l = c.args.laid.now in
    let program = table_program (program_of b.places b.awaits b.left b.asks b.then) l in
    subst (λ (r : Rec g.row.B.Denot). IsAsked program c.args.seat.now.me.0 r c.in_ok-asked.asked)
    (sym c.next.ensures.others)
    (asked_next program (c.points_in_rounds.ensures.good l.strict l.root.value c.requires.running.rooted)
    c.args.seat.now.me.0 c.args.rec.now c.requires.running c.in_ok-asked.asked c.next.new.self.body
    c.in_ok-asked.ensures.ask c.in_ok-asked.ensures.body
    (c.points_in_rounds.ensures.placed l.strict l.root.value c.requires.running.rooted))

pub returns-clause-falls : goal.returns-clause-falls
returns-clause-falls g c =
    let b = g.B.Body in let l = c.args.laid.now in
    let program = table_program (program_of b.places b.awaits b.left b.asks b.then) l in
    let o = (g.met.B.Body g.world.𝓛 g.world.𝓜 g.world.𝓡 ((λ s x. x), (λ x. x), (λ x. x), λ x. x)).obeys in
    falls_next program (c.points_in_rounds.ensures.good l.strict l.root.value c.requires.running.rooted)
    c.args.seat.now.me.0 c.args.rec.now c.requires.running c.in_ok-asked.asked c.next.new.self.body
    c.in_ok-asked.ensures.ask c.in_ok-asked.ensures.body o

pub returns-clause-runs : goal.returns-clause-runs
returns-clause-runs g c = let l = c.args.laid.now in let me = c.args.seat.now.me in let r = c.args.rec.now in
    subst (λ (q : Rec g.row.B.Denot). RunsTask l q me) (sym c.next.ensures.others)
    (runs_too l r (record r { body = c.next.new.self.body }) me refl refl refl c.requires.runs.has.knows c.requires.runs)
