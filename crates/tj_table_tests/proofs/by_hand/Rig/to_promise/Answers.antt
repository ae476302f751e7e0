use Rattle.tj_run.proofs.Prelude.{IsAsked, Rec, [], ap, program_of, refl, subst, sym, table_program, ◌++◌, ◌+◌}
use Rattle.tj_run.proofs.Prelude.{◌∙◌, ◌∷◌}
use Rattle.tj_base.specs.declared.cell.Sort.TheVariants as sort
use Rattle.tj_body.specs.declared.ask.Answer.TheVariants as answer
use Rattle.tj_run.proofs.Asks.MadePromises.{may_make_promise, promise_made}
use Rattle.tj_table_tests.proofs.by_hand.Rig.to_promise.Given.{Over}
use Rattle.tj_table_tests.specs.ByHand.{IsRun}
use Rattle.tj_table_tests.proofs.by_hand.Rig.to_promise.Goals as goal
use Rattle.tj_table_tests.proofs.by_hand.Rig.to_promise.Goals.{In-New}
use Rattle.tj_body.specs.declared.ask.Ask.TheVariants as ask

-- the task has asked for a promise
asked : (g : Over) (c : In-New g)
    → let b = g.B.Body in
    IsAsked (table_program (program_of b.places b.awaits b.left b.asks b.then) c.args.self.now.laid)
    c.args.seat.now.me.0 c.ask-rec.result.0 ask.New
asked g c = let b = g.B.Body in
    subst (IsAsked (table_program (program_of b.places b.awaits b.left b.asks b.then) c.args.self.now.laid)
    c.args.seat.now.me.0 c.ask-rec.result.0) c.in-New.is c.ask-rec.ensures.asked

pub make-requires-clause-may : goal.make-requires-clause-may
make-requires-clause-may g c κs within = let b = g.B.Body in let l = c.args.self.now.laid in
    let a = asked g (goal.at.make-requires-clause-may g c).In-New in
    rw (c.cell.ensures, c.made.ensures)
    (may_make_promise (program_of b.places b.awaits b.left b.asks b.then) l c.ask-rec.result.0 c.args.seat.now.me
    c.ask-rec.ensures.runs a (c.points_in_rounds.ensures.ask l.strict l.root.value a.rooted)
    (c.points_in_rounds.ensures.things l.strict l.root.value a.rooted))

pub returns-clause-runs : goal.returns-clause-runs
returns-clause-runs g c = let b = g.B.Body in let l = c.args.self.now.laid in
    let a = asked g (goal.at.returns-clause-runs g c).In-New in let r = c.ask-rec.result.0 in
    let held : Rec g.row.B.Denot
    = record r { held = r.held ++ record { cell = c.in-Ok.c; sort = sort.Promise } ∷ [] } in
    let owned : Rec g.row.B.Denot = record held { owned = held.owned ++ c.in-Ok.c ∷ [] } in
    let made : Rec g.row.B.Denot = record owned { made = owned.made + 1 } in
    let goes = promise_made (program_of b.places b.awaits b.left b.asks b.then) l r
    c.args.seat.now.me c.ask-rec.ensures.runs a (c.points_in_rounds.ensures.ask l.strict l.root.value a.rooted)
    c.cell.result c.in-Ok.c c.make.new.seat.me c.cell.ensures c.in-Ok.ensures.made c.make.ensures.seat.2
    held owned made (record made { answer = answer.Local c.places.result }) c.places.result c.places.ensures
    refl refl refl refl in
    subst (λ (z : Rec g.row.B.Denot). IsRun (program_of b.places b.awaits b.left b.asks b.then) l z c.make.new.seat.me)
    (sym (c.count_made.ensures ∙ ap (λ (z : Rec g.row.B.Denot). record z { made = z.made + 1 })
    (c.in-Ok-own.ensures.ok ∙ ap (λ (z : Rec g.row.B.Denot). record z { owned = z.owned ++ c.in-Ok.c ∷ [] })
    (c.hold.ensures ∙ ap (λ (z : Rec g.row.B.Denot). record z {
      held = z.held ++ record { cell = c.in-Ok.c; sort = sort.Promise } ∷ [];
    }) c.set_answer.ensures))))
    (record { runs = goes.runs; running = goes.goes_on })
