use Rattle.std.proofs.Common.{subst, sym}
use Rattle.std.proofs.lemmas.Int.{to_z-of_z}
use Rattle.std.specs.Int.{w64}
use Rattle.tj_base.specs.declared.value.Shown.TheVariants as shown
use Rattle.tj_told.specs.SeenNews.{IsSeenAs}
use Rattle.tj_body.specs.Programs.{program_of}
use Rattle.tj_told.proofs.Climbing.{looks_on, observes_on}
use Rattle.tj_told.proofs.SeenValues.{after_value, is_number, is_promise, is_task, number_seen, promise_seen}
use Rattle.tj_told.proofs.SeenValues.{shown_found, task_seen}
use Rattle.tj_told.proofs.values.value_at.Goals as goal

pub returns-in-Num-clause-seat : goal.returns-in-Num-clause-seat
returns-in-Num-clause-seat g c = let b = g.B.Body in let v = c.value in
    after_value (program_of b.places b.awaits b.left b.asks b.then) c.args.laid.now.cells c.args.c.0 c.args.seat.now
    v.new.seat v.ensures.seat v.result v.ensures.not_yet v.ensures.value v.ensures.log_not_yet v.ensures.log_value

pub returns-in-Broken-clause-seat : goal.returns-in-Broken-clause-seat
returns-in-Broken-clause-seat g c = let b = g.B.Body in let v = c.value in
    after_value (program_of b.places b.awaits b.left b.asks b.then) c.args.laid.now.cells c.args.c.0 c.args.seat.now
    v.new.seat v.ensures.seat v.result v.ensures.not_yet v.ensures.value v.ensures.log_not_yet v.ensures.log_value

pub returns-in-Promise-clause-seat : goal.returns-in-Promise-clause-seat
returns-in-Promise-clause-seat g c = let b = g.B.Body in let v = c.value in
    looks_on c.args.seat.now v.new.seat c.reference.new.seat
    (after_value (program_of b.places b.awaits b.left b.asks b.then) c.args.laid.now.cells c.args.c.0 c.args.seat.now
    v.new.seat v.ensures.seat v.result v.ensures.not_yet v.ensures.value v.ensures.log_not_yet v.ensures.log_value)
    c.reference.ensures.seat

pub returns-in-Task-clause-seat : goal.returns-in-Task-clause-seat
returns-in-Task-clause-seat g c = let b = g.B.Body in let v = c.value in
    looks_on c.args.seat.now v.new.seat c.reference-in-Task.new.seat
    (after_value (program_of b.places b.awaits b.left b.asks b.then) c.args.laid.now.cells c.args.c.0 c.args.seat.now
    v.new.seat v.ensures.seat v.result v.ensures.not_yet v.ensures.value v.ensures.log_not_yet v.ensures.log_value)
    c.reference-in-Task.ensures.seat

pub returns-in-Num-clause-value : goal.returns-in-Num-clause-value
returns-in-Num-clause-value g c = let b = g.B.Body in let v = c.value in
    subst (λ i. IsSeenAs c.args.c.0 (shown.Num i) v.new.seat.me.0) (sym (to_z-of_z w64 c.in-Num.number (search)))
    (number_seen (program_of b.places b.awaits b.left b.asks b.then) c.args.laid.now.cells c.args.c.0 c.in-Num.number
    c.args.seat.now.me.0 v.new.seat.me.0 (c.in-Num.ensures.value (is_number c.in-Num.number)))

pub returns-in-Promise-clause-value : goal.returns-in-Promise-clause-value
returns-in-Promise-clause-value g c = let b = g.B.Body in let v = c.value in let r = c.reference in
    let s = promise_seen (program_of b.places b.awaits b.left b.asks b.then) c.args.laid.now.cells c.args.c.0
    c.in-Promise.of
    c.args.seat.now.me.0 v.new.seat.me.0 (c.in-Promise.ensures.value (is_promise c.in-Promise.of)) in
    shown_found c.args.c.0 c.in-Promise.of.0 r.new.seat.me.0 (λ q n. s.2 r.new.seat.me.0 q r.ensures.seat.more n)
    r.result
    r.ensures.name

pub reference-requires-clause-seat : goal.reference-requires-clause-seat
reference-requires-clause-seat g c κs within = let b = g.B.Body in let v = c.value in
    observes_on c.args.laid.now c.args.seat.now v.new.seat c.requires.seat
    (after_value (program_of b.places b.awaits b.left b.asks b.then) c.args.laid.now.cells c.args.c.0 c.args.seat.now
    v.new.seat v.ensures.seat v.result v.ensures.not_yet v.ensures.value v.ensures.log_not_yet v.ensures.log_value)

pub reference-requires-clause-cell : goal.reference-requires-clause-cell
reference-requires-clause-cell g c κs within = let b = g.B.Body in let v = c.value in
    (promise_seen (program_of b.places b.awaits b.left b.asks b.then) c.args.laid.now.cells c.args.c.0 c.in-Promise.of
    c.args.seat.now.me.0 v.new.seat.me.0 (c.in-Promise.ensures.value (is_promise c.in-Promise.of))).0

pub reference-requires-clause-known : goal.reference-requires-clause-known
reference-requires-clause-known g c κs within = let b = g.B.Body in let v = c.value in
    (promise_seen (program_of b.places b.awaits b.left b.asks b.then) c.args.laid.now.cells c.args.c.0 c.in-Promise.of
    c.args.seat.now.me.0 v.new.seat.me.0 (c.in-Promise.ensures.value (is_promise c.in-Promise.of))).1

pub returns-in-Task-clause-value : goal.returns-in-Task-clause-value
returns-in-Task-clause-value g c = let b = g.B.Body in let v = c.value in let r = c.reference-in-Task in
    let s = task_seen (program_of b.places b.awaits b.left b.asks b.then) c.args.laid.now.cells c.args.c.0 c.in-Task.of
    c.args.seat.now.me.0 v.new.seat.me.0 (c.in-Task.ensures.value (is_task c.in-Task.of)) in
    shown_found c.args.c.0 c.in-Task.of.0 r.new.seat.me.0 (λ q n. s.2 r.new.seat.me.0 q r.ensures.seat.more n) r.result
    r.ensures.name

pub reference-requires-in-Task-clause-seat : goal.reference-requires-in-Task-clause-seat
reference-requires-in-Task-clause-seat g c κs within = let b = g.B.Body in let v = c.value in
    observes_on c.args.laid.now c.args.seat.now v.new.seat c.requires.seat
    (after_value (program_of b.places b.awaits b.left b.asks b.then) c.args.laid.now.cells c.args.c.0 c.args.seat.now
    v.new.seat v.ensures.seat v.result v.ensures.not_yet v.ensures.value v.ensures.log_not_yet v.ensures.log_value)

pub reference-requires-in-Task-clause-cell : goal.reference-requires-in-Task-clause-cell
reference-requires-in-Task-clause-cell g c κs within = let b = g.B.Body in let v = c.value in
    (task_seen (program_of b.places b.awaits b.left b.asks b.then) c.args.laid.now.cells c.args.c.0 c.in-Task.of
    c.args.seat.now.me.0 v.new.seat.me.0 (c.in-Task.ensures.value (is_task c.in-Task.of))).0

pub reference-requires-in-Task-clause-known : goal.reference-requires-in-Task-clause-known
reference-requires-in-Task-clause-known g c κs within = let b = g.B.Body in let v = c.value in
    (task_seen (program_of b.places b.awaits b.left b.asks b.then) c.args.laid.now.cells c.args.c.0 c.in-Task.of
    c.args.seat.now.me.0 v.new.seat.me.0 (c.in-Task.ensures.value (is_task c.in-Task.of))).1
