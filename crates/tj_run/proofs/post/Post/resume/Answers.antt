use Rattle.tj_run.proofs.Prelude.{IfOk, program_of, refl, subst, sym, table_program, ◌∙◌}
use Rattle.tj_run.proofs.Waiting.ResumedTasks.{goes_from_start, has_answers, is_place, waits_again}
use Rattle.tj_run.specs.Inner.Going.{IsCauseOfWait}
use Rattle.tj_run.proofs.post.Post.resume.Goals as goal
use Rattle.tj_run.proofs.Seats.LogGrowth.{still}

pub look-requires-clause-waiting : goal.look-requires-clause-waiting
look-requires-clause-waiting g c κs within =
    let b = g.B.Body in let l = c.args.laid.now in
    let program = table_program (program_of b.places b.awaits b.left b.asks b.then) l in
    rw c.spare-spare.ensures
    (waits_again program c.args.self.now.seat.me.0 c.args.rec.now c.requires.back.known c.requires.back.unfinished
    c.requires.back.rooted
    (c.points_in_rounds.ensures.good l.strict l.root.value c.requires.back.rooted) c.in-RefAt.place
    (sym c.answer.ensures ∙ c.in-RefAt.is))

pub returns-in-RefAt-clause-answer : goal.returns-in-RefAt-clause-answer
returns-in-RefAt-clause-answer g c =
    let b = g.B.Body in let l = c.args.laid.now in
    has_answers (program_of b.places b.awaits b.left b.asks b.then) l c.args.rec.now c.args.self.now.seat.me
    c.requires.back.runs
    c.requires.back.known c.requires.back.unfinished c.requires.back.rooted
    (c.points_in_rounds.ensures.good l.strict l.root.value c.requires.back.rooted) c.in-RefAt.place
    (sym c.answer.ensures ∙ c.in-RefAt.is)
    c.look.new.self.seat.me.0 c.look.result
    (subst (λ s. IfOk c.look.result (λ n. IsCauseOfWait n c.args.rec.now c.in-RefAt.place s
    c.args.self.now.seat.me.0 c.look.new.self.seat.me.0)) c.spare-spare.ensures c.look.ensures.waits)

pub returns-in_default : goal.returns-in_default
returns-in_default g c =
    let b = g.B.Body in let l = c.args.laid.now in record {
      stays = ((refl, refl), tt);
      log = still c.args.self.now.seat;
      goes = goes_from_start (program_of b.places b.awaits b.left b.asks b.then) l c.args.rec.now
          c.args.self.now.seat.me
          c.requires.back.runs c.requires.back.known c.requires.back.unfinished c.requires.back.rooted
          (is_place c.args.rec.now.answer (λ k e. c.in_default.not-RefAt k (c.answer.ensures ∙ e)));
      answer = tt;
    }
