use Rattle.tj_run.proofs.Prelude.{Rec, ap, held_at, length, program_of, subst, sym, table_program, ◌<◌, ◌∙◌}
use Rattle.tj_run.proofs.Asks.NextAsks.{few_places, fits_record}
use Rattle.tj_table_tests.specs.Beside.{WaitsBeside, alone}
use Rattle.tj_table_tests.proofs.TwoTasks.{begins, inside, waits_beside}
use Rattle.tj_table_tests.proofs.by_hand.Rig.ask_beside.Goals as goal

pub next-requires-clause-fits : goal.next-requires-clause-fits
next-requires-clause-fits g c κs within =
    let b = g.B.Body in let p = program_of b.places b.awaits b.left b.asks b.then in let l = c.args.self.now.laid in
    let x = c.claim_beside-rec in let m = x.new.seat.me in
    fits_record (table_program p l) (c.points_in_rounds.ensures.good l.strict l.root.value c.requires.begins.rooted)
    (alone x.result m.0) x.result (begins p l c.args.mine.now x.result c.args.seat.now.me m x.ensures.begun)

pub next-requires-clause-room : goal.next-requires-clause-room
next-requires-clause-room g c κs within =
    let b = g.B.Body in let p = program_of b.places b.awaits b.left b.asks b.then in let l = c.args.self.now.laid in
    let x = c.claim_beside-rec in let m = x.new.seat.me in
    few_places (table_program p l) (c.points_in_rounds.ensures.good l.strict l.root.value c.requires.begins.rooted)
    (alone x.result m.0) x.result (begins p l c.args.mine.now x.result c.args.seat.now.me m x.ensures.begun)

pub at-h-requires : goal.at-h-requires
at-h-requires g c =
    let b = g.B.Body in let p = program_of b.places b.awaits b.left b.asks b.then in let l = c.args.self.now.laid in
    let x = c.claim_beside-rec in let law = c.points_in_rounds.ensures in
    subst (λ (z : Rec g.row.B.Denot). c.in-Get.p < length z.held) (sym c.next.ensures.others)
    (inside p l c.args.mine.now x.result c.args.seat.now.me
    x.new.seat.me x.ensures.begun (law.good l.strict l.root.value c.requires.begins.rooted) c.in-Ok.ask
    c.next.new.self.body
    c.in-Ok.ensures.ask c.in-Ok.ensures.body (law.placed l.strict l.root.value c.requires.begins.rooted)
    (law.ask l.strict l.root.value c.requires.begins.rooted) c.in-Get.p c.in-Get.is)

pub returns-clause-waits : goal.returns-clause-waits
returns-clause-waits g c =
    let b = g.B.Body in let p = program_of b.places b.awaits b.left b.asks b.then in let l = c.args.self.now.laid in
    let x = c.claim_beside-rec in let law = c.points_in_rounds.ensures in
    subst (λ (z : Rec g.row.B.Denot). WaitsBeside p l c.args.mine.now z c.in-Get.p c.at-h.result c.args.seat.now.me
    x.new.seat.me) (sym c.next.ensures.others)
    (waits_beside p l c.args.mine.now x.result c.args.seat.now.me
    x.new.seat.me x.ensures.begun (law.good l.strict l.root.value c.requires.begins.rooted) c.in-Ok.ask
    c.next.new.self.body
    c.in-Ok.ensures.ask c.in-Ok.ensures.body (law.placed l.strict l.root.value c.requires.begins.rooted)
    (law.ask l.strict l.root.value c.requires.begins.rooted) c.in-Get.p c.in-Get.is
    c.at-h.result (c.at-h.ensures ∙ ap (λ (z : Rec g.row.B.Denot). held_at z.held c.in-Get.p) c.next.ensures.others)
    c.in-Promise.is)
