use Rattle.tj_run.proofs.Prelude.{Held, ap, program_of, sym, table_program, ◌∙◌}
use Rattle.tj_run.proofs.Waiting.JoinTests.{get_fails, get_waits}
use Rattle.tj_run.proofs.Seats.WorkersSteps.{goes_itself}
use Rattle.tj_record.specs.declared.record.Finish.TheVariants as finish
use Rattle.tj_record.specs.declared.record.Hurt.TheVariants as hurt
use Rattle.tj_run.specs.declared.next.Next.TheVariants as next
use Rattle.tj_run.proofs.post.Post.get.Goals as goal
use Rattle.tj_run.proofs.Seats.LogGrowth.{still}

pub look-requires-clause-waiting : goal.look-requires-clause-waiting
look-requires-clause-waiting g c κs within = let b = g.B.Body in let l = c.args.laid.now in let r = c.args.rec.now in
    let p = table_program (program_of b.places b.awaits b.left b.asks b.then) l in
    get_waits p c.args.self.now.seat.me.0 (c.points_in_rounds.ensures.ask l.strict l.root.value c.requires.asked.rooted)
    r
    c.args.at.place c.args.at.spare c.requires.asked
    (ap (λ (z : Held). z.sort) (sym c.at.ensures) ∙ c.in-Promise.is)

pub returns-in-Task-clause-goes : goal.returns-in-Task-clause-goes
returns-in-Task-clause-goes g c = let b = g.B.Body in let l = c.args.laid.now in let r = c.args.rec.now in
    let q = program_of b.places b.awaits b.left b.asks b.then in let p = table_program q l in
    goes_itself q l (next.Ends (finish.Failed hurt.Kind)) r c.args.self.now.seat.me c.requires.runs
    (get_fails p c.args.self.now.seat.me.0 (c.points_in_rounds.ensures.ask l.strict l.root.value
    c.requires.asked.rooted) r
    c.args.at.place c.args.at.spare c.requires.asked
    (ap (λ (z : Held). z.sort) (sym c.at.ensures) ∙ c.in-Task.is))

pub returns-in-Task-clause-log : goal.returns-in-Task-clause-log
returns-in-Task-clause-log g c = still c.args.self.now.seat
