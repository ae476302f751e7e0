use Rattle.tj_run.proofs.Prelude.{Goes, Held, ap, held_at, join_of, program_of, subst, sym, table_program, way_by, ◌∙◌}
use Rattle.tj_run.proofs.Waiting.JoinTests.{along_then, goes_if, join_fails, join_inside, join_waits, other_then}
use Rattle.tj_run.proofs.Waiting.JoinTests.{runs_then, task_else}
use Rattle.tj_run.proofs.Asks.PointSteps.{before}
use Rattle.tj_run.proofs.Cells.ToldCells.{told_cell, told_held, told_knows, told_task}
use Rattle.tj_run.proofs.Seats.WorkersSteps.{goes_itself}
use Rattle.tj_record.specs.declared.record.Finish.TheVariants as finish
use Rattle.tj_record.specs.declared.record.Hurt.TheVariants as hurt
use Rattle.tj_run.specs.declared.next.Next.TheVariants as next
use Rattle.tj_run.proofs.post.Post.join.Goals as goal
use Rattle.tj_cells.proofs.CallLogs.{grows_on}
use Rattle.tj_run.proofs.Seats.LogGrowth.{still}

pub returns-in-Promise-clause-goes : goal.returns-in-Promise-clause-goes
returns-in-Promise-clause-goes g c =
    let b = g.B.Body in let l = c.args.laid.now in let r = c.args.rec.now in
    let q = program_of b.places b.awaits b.left b.asks b.then in let p = table_program q l in
    let a = c.requires.asked in let k = c.args.at.place in let o = c.args.at.spare in let s = c.args.self.now.seat.me in
    let law = c.points_in_rounds.ensures.ask l.strict l.root.value a.rooted in
    goes_itself q l (next.Ends (finish.Failed hurt.Kind)) r s c.requires.runs
    (join_fails p s.0 law r k o a (ap (λ (z : Held). z.sort) (sym c.at-h.ensures) ∙ c.in-Promise.is))

pub look-requires-clause-waiting : goal.look-requires-clause-waiting
look-requires-clause-waiting g c κs within =
    let b = g.B.Body in let l = c.args.laid.now in let r = c.args.rec.now in
    let q = program_of b.places b.awaits b.left b.asks b.then in let p = table_program q l in
    let a = c.requires.asked in let k = c.args.at.place in let o = c.args.at.spare in let s = c.args.self.now.seat.me in
    let law = c.points_in_rounds.ensures.ask l.strict l.root.value a.rooted in
    join_waits p s.0 law r k o a
    (task_else (held_at r.held k).sort
    (λ z. c.in_default.not-Promise (ap (λ (y : Held). y.sort) c.at-h.ensures ∙ z)))
    (sym c.strict.ensures ∙ c.if-not-strict.true)

pub way_to-requires-clause-task : goal.way_to-requires-clause-task
way_to-requires-clause-task g c κs within =
    let b = g.B.Body in let l = c.args.laid.now in let r = c.args.rec.now in
    let q = program_of b.places b.awaits b.left b.asks b.then in let p = table_program q l in
    let a = c.requires.asked in let k = c.args.at.place in let o = c.args.at.spare in let s = c.args.self.now.seat.me in
    rw c.cell.ensures (told_task l r s c.requires.runs (before p s.0 r (join_of o k) a) a.tells)

pub way_to-requires-clause-cell : goal.way_to-requires-clause-cell
way_to-requires-clause-cell g c κs within =
    let b = g.B.Body in let l = c.args.laid.now in let r = c.args.rec.now in
    let q = program_of b.places b.awaits b.left b.asks b.then in let p = table_program q l in
    let a = c.requires.asked in let k = c.args.at.place in let o = c.args.at.spare in let s = c.args.self.now.seat.me in
    let law = c.points_in_rounds.ensures.ask l.strict l.root.value a.rooted in
    told_cell l r s c.requires.runs (before p s.0 r (join_of o k) a) a.tells
    k (join_inside p s.0 law r k o a) c.at-h.result c.at-h.ensures

pub way_to-requires-clause-task_known : goal.way_to-requires-clause-task_known
way_to-requires-clause-task_known g c κs within =
    let b = g.B.Body in let l = c.args.laid.now in let r = c.args.rec.now in
    let q = program_of b.places b.awaits b.left b.asks b.then in let p = table_program q l in
    let a = c.requires.asked in let k = c.args.at.place in let o = c.args.at.spare in let s = c.args.self.now.seat.me in
    rw c.cell.ensures (told_knows l r s c.requires.runs (before p s.0 r (join_of o k) a) a.tells)

pub way_to-requires-clause-held : goal.way_to-requires-clause-held
way_to-requires-clause-held g c κs within =
    let b = g.B.Body in let l = c.args.laid.now in let r = c.args.rec.now in
    let q = program_of b.places b.awaits b.left b.asks b.then in let p = table_program q l in
    let a = c.requires.asked in let k = c.args.at.place in let o = c.args.at.spare in let s = c.args.self.now.seat.me in
    let law = c.points_in_rounds.ensures.ask l.strict l.root.value a.rooted in
    told_held l r s c.requires.runs (before p s.0 r (join_of o k) a) a.tells
    k (join_inside p s.0 law r k o a) c.at-h.result c.at-h.ensures

pub look-requires-in-Along-clause-runs : goal.look-requires-in-Along-clause-runs
look-requires-in-Along-clause-runs g c κs within =
    let b = g.B.Body in let l = c.args.laid.now in let r = c.args.rec.now in
    let q = program_of b.places b.awaits b.left b.asks b.then in let p = table_program q l in
    let a = c.requires.asked in let k = c.args.at.place in let o = c.args.at.spare in let s = c.args.self.now.seat.me in
    let law = c.points_in_rounds.ensures.ask l.strict l.root.value a.rooted in
    runs_then q l law r k o s c.way_to.new.seat.me c.way_to.ensures.view c.way_to.ensures.seat.2
    c.requires.runs a

pub look-requires-in-Along-clause-waiting : goal.look-requires-in-Along-clause-waiting
look-requires-in-Along-clause-waiting g c κs within =
    let b = g.B.Body in let l = c.args.laid.now in let r = c.args.rec.now in
    let q = program_of b.places b.awaits b.left b.asks b.then in let p = table_program q l in
    let a = c.requires.asked in let k = c.args.at.place in let o = c.args.at.spare in let s = c.args.self.now.seat.me in
    let law = c.points_in_rounds.ensures.ask l.strict l.root.value a.rooted in
    along_then q l law r k o s c.way_to.new.seat.me c.way_to.ensures.view c.way_to.ensures.seat.2
    c.requires.runs a
    (task_else (held_at r.held k).sort
    (λ z. c.in_default.not-Promise (ap (λ (y : Held). y.sort) c.at-h.ensures ∙ z)))
    (sym (c.way_to.ensures.way
    ∙ (λ i. way_by c.way_to.new.seat.me.0.born (c.cell.ensures i).0 (c.at-h.ensures i).cell.0)) ∙ c.in-Along.is)

pub returns-in-Other-clause-goes : goal.returns-in-Other-clause-goes
returns-in-Other-clause-goes g c =
    let b = g.B.Body in let l = c.args.laid.now in let r = c.args.rec.now in
    let q = program_of b.places b.awaits b.left b.asks b.then in let p = table_program q l in
    let a = c.requires.asked in let k = c.args.at.place in let o = c.args.at.spare in let s = c.args.self.now.seat.me in
    let law = c.points_in_rounds.ensures.ask l.strict l.root.value a.rooted in
    subst (λ (z : Held). Goes q l (next.Ends (finish.Failed (hurt.Order z.cell))) r s.0 c.way_to.new.seat.me)
    (sym c.at-h.ensures)
    (other_then q l law r k o s c.way_to.new.seat.me c.way_to.ensures.view c.way_to.ensures.seat.2
    c.requires.runs a
    (task_else (held_at r.held k).sort
    (λ z. c.in_default.not-Promise (ap (λ (y : Held). y.sort) c.at-h.ensures ∙ z)))
    (sym c.strict.ensures ∙ c.if-not-strict.false)
    (sym (c.way_to.ensures.way
    ∙ (λ i. way_by c.way_to.new.seat.me.0.born (c.cell.ensures i).0 (c.at-h.ensures i).cell.0)) ∙ c.in-Other.is))

pub returns-in-Along-clause-goes : goal.returns-in-Along-clause-goes
returns-in-Along-clause-goes g c =
    let b = g.B.Body in let l = c.args.laid.now in let r = c.args.rec.now in
    let q = program_of b.places b.awaits b.left b.asks b.then in let p = table_program q l in
    let a = c.requires.asked in let k = c.args.at.place in let o = c.args.at.spare in let s = c.args.self.now.seat.me in
    let law = c.points_in_rounds.ensures.ask l.strict l.root.value a.rooted in
    goes_if q l law r k o s c.way_to.new.seat.me c.way_to.ensures.view c.way_to.ensures.seat.2
    c.requires.runs a
    c.look-in-Along.result c.look-in-Along.new.rec c.look-in-Along.new.self.seat.me
    c.look-in-Along.ensures.goes

pub returns-in-Promise-clause-log : goal.returns-in-Promise-clause-log
returns-in-Promise-clause-log g c = still c.args.self.now.seat

pub returns-in-Along-clause-log : goal.returns-in-Along-clause-log
returns-in-Along-clause-log g c = grows_on c.args.self.now.seat c.way_to.new.seat c.look-in-Along.new.self.seat
    c.way_to.ensures.log c.look-in-Along.ensures.log
