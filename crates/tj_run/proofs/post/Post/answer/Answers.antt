use Rattle.tj_run.proofs.Prelude.{Ask, Bool, IsAsked, Program, Rec, View, ap, false, join_of, program_of, subst, sym}
use Rattle.tj_run.proofs.Prelude.{table_program, to_z-of_z, true, w64, ℕ, ◌∙◌, ◌≡◌}
use Rattle.tj_body.specs.Inner.AskSteps.{get_of}
use Rattle.tj_run.specs.declared.next.Wanted.{Wanted}
use Rattle.tj_body.specs.declared.ask.Ask.TheVariants as ask
use Rattle.tj_run.proofs.Asks.PureAsks.{fail_goes}
use Rattle.tj_run.proofs.post.Post.answer.Goals as goal
use Rattle.tj_run.proofs.Seats.LogGrowth.{still}

-- what is asked at a place is asked of what is wanted there
asks_wanted : {B : Type 0} (program : Program B) (v : View B) (r : Rec B) (to : Bool → ℕ → Ask B) (place : ℕ)
    (spare : Bool) (w : Wanted) → w.place ≡ place → w.spare ≡ spare → IsAsked program v r (to spare place)
    → IsAsked program v r (to w.spare w.place)
asks_wanted program v r to place spare w p s h = subst (λ k. IsAsked program v r (to w.spare k)) (sym p)
    (subst (λ b. IsAsked program v r (to b place)) (sym s) h)

pub emit-requires-clause-asked : goal.emit-requires-clause-asked
emit-requires-clause-asked g c κs within =
    let b = g.B.Body in let l = c.args.laid.now in
    let program = table_program (program_of b.places b.awaits b.left b.asks b.then) l in
    let same = to_z-of_z w64 c.in-Emit.number (search) in
    subst (λ x. IsAsked program c.args.self.now.seat.me.0 c.args.rec.now x)
    (c.in-Emit.is ∙ ap (λ z. ask.Emit z) (sym same))
    c.requires.asked

pub returns-in-Fail-clause-stops : goal.returns-in-Fail-clause-stops
returns-in-Fail-clause-stops g c = λ _. tt

pub returns-in-Fail-clause-goes : goal.returns-in-Fail-clause-goes
returns-in-Fail-clause-goes g c =
    let b = g.B.Body in let l = c.args.laid.now in let p = program_of b.places b.awaits b.left b.asks b.then in
    fail_goes p l c.args.rec.now c.args.self.now.seat.me c.requires.runs
    (c.points_in_rounds.ensures.ask l.strict l.root.value c.requires.asked.rooted) c.in-Fail.trouble c.hurt_of.result
    c.hurt_of.ensures
    (subst (IsAsked (table_program p l) c.args.self.now.seat.me.0 c.args.rec.now) c.in-Fail.is c.requires.asked)

pub get-requires-clause-asked : goal.get-requires-clause-asked
get-requires-clause-asked g c κs within =
    let b = g.B.Body in let l = c.args.laid.now in let v = c.args.self.now.seat.me.0 in let r = c.args.rec.now in
    let program = table_program (program_of b.places b.awaits b.left b.asks b.then) l in
    asks_wanted program v r get_of c.in-Get.p false c.of.result c.of.ensures.place c.of.ensures.spare
    (subst (IsAsked program v r) c.in-Get.is c.requires.asked)

pub get-requires-in-GetOr-clause-asked : goal.get-requires-in-GetOr-clause-asked
get-requires-in-GetOr-clause-asked g c κs within =
    let b = g.B.Body in let l = c.args.laid.now in let v = c.args.self.now.seat.me.0 in let r = c.args.rec.now in
    let program = table_program (program_of b.places b.awaits b.left b.asks b.then) l in
    asks_wanted program v r get_of c.in-GetOr.p true c.of-in-GetOr.result c.of-in-GetOr.ensures.place
    c.of-in-GetOr.ensures.spare
    (subst (IsAsked program v r) c.in-GetOr.is c.requires.asked)

pub join-requires-clause-asked : goal.join-requires-clause-asked
join-requires-clause-asked g c κs within =
    let b = g.B.Body in let l = c.args.laid.now in let v = c.args.self.now.seat.me.0 in let r = c.args.rec.now in
    let program = table_program (program_of b.places b.awaits b.left b.asks b.then) l in
    asks_wanted program v r join_of c.in-Join.t false c.of-in-Join.result c.of-in-Join.ensures.place
    c.of-in-Join.ensures.spare
    (subst (IsAsked program v r) c.in-Join.is c.requires.asked)

pub join-requires-in-JoinOr-clause-asked : goal.join-requires-in-JoinOr-clause-asked
join-requires-in-JoinOr-clause-asked g c κs within =
    let b = g.B.Body in let l = c.args.laid.now in let v = c.args.self.now.seat.me.0 in let r = c.args.rec.now in
    let program = table_program (program_of b.places b.awaits b.left b.asks b.then) l in
    asks_wanted program v r join_of c.in-JoinOr.t true c.of-in-JoinOr.result c.of-in-JoinOr.ensures.place
    c.of-in-JoinOr.ensures.spare
    (subst (IsAsked program v r) c.in-JoinOr.is c.requires.asked)

pub returns-in-Emit-clause-log : goal.returns-in-Emit-clause-log
returns-in-Emit-clause-log g c = still c.args.self.now.seat

pub returns-in-End-clause-log : goal.returns-in-End-clause-log
returns-in-End-clause-log g c = still c.args.self.now.seat

pub returns-in-Fail-clause-log : goal.returns-in-Fail-clause-log
returns-in-Fail-clause-log g c = still c.args.self.now.seat
