use Rattle.tj_run.proofs.Prelude.{program_of, to_z-of_z, w64}
use Rattle.tj_run.proofs.Waiting.LookedCells.{broken_seen, look_broken, look_in_vain, look_number, look_promise}
use Rattle.tj_run.proofs.Waiting.LookedCells.{look_task, look_there, number_seen, place_held, promise_seen, runs_then}
use Rattle.tj_run.proofs.Waiting.LookedCells.{task_seen}
use Rattle.tj_run.proofs.post.Post.look.Goals as goal
use Rattle.tj_run.proofs.Seats.LogGrowth.{value_grows}

pub at-requires : goal.at-requires
at-requires g c =
    let b = g.B.Body in
    place_held (program_of b.places b.awaits b.left b.asks b.then) c.args.laid.now c.args.rec.now c.args.at.place
    c.args.at.spare c.args.self.now.seat.me c.requires.runs c.requires.waiting

pub value-requires-clause-cell : goal.value-requires-clause-cell
value-requires-clause-cell g c κs within =
    let b = g.B.Body in
    look_there (program_of b.places b.awaits b.left b.asks b.then) c.args.laid.now c.args.rec.now c.args.at.place
    c.args.at.spare c.args.self.now.seat.me c.requires.runs c.requires.waiting c.at.result
    c.at.ensures

pub returns-in-NotYet-clause-goes : goal.returns-in-NotYet-clause-goes
returns-in-NotYet-clause-goes g c =
    let b = g.B.Body in
    look_in_vain (program_of b.places b.awaits b.left b.asks b.then) c.args.laid.now c.args.rec.now c.args.at.place
    c.args.at.spare c.args.self.now.seat.me c.requires.runs c.requires.waiting c.at.result
    c.at.ensures c.value.new.seat.me c.value.ensures.seat.2
    (c.value.ensures.not_yet c.in-NotYet.is)

pub returns-in-Num-clause-goes : goal.returns-in-Num-clause-goes
returns-in-Num-clause-goes g c =
    let b = g.B.Body in let l = c.args.laid.now in
    rw c.set_answer.ensures
    (look_number (program_of b.places b.awaits b.left b.asks b.then) l c.args.rec.now c.args.at.place
    c.args.at.spare c.args.self.now.seat.me c.requires.runs c.requires.waiting c.at.result
    c.at.ensures c.value.new.seat.me c.value.ensures.seat.2
    (c.points_in_rounds.ensures.read l.strict l.root.value c.requires.waiting.rooted) c.in-Num.number _
    (to_z-of_z w64 c.in-Num.number (search)) (c.in-Num.ensures.value (number_seen c.in-Num.number)))

pub returns-in-Promise-clause-goes : goal.returns-in-Promise-clause-goes
returns-in-Promise-clause-goes g c =
    let b = g.B.Body in let l = c.args.laid.now in
    let program = program_of b.places b.awaits b.left b.asks b.then in
    runs_then program l c.args.self.now.seat.me.0 c.value.new.seat.me c.add_reference.new.rec _ c.add_reference.result
    c.add_reference.ensures.runs c.add_reference.ensures.rec
    (look_promise program l c.args.rec.now c.args.at.place
    c.args.at.spare c.args.self.now.seat.me c.requires.runs c.requires.waiting c.at.result
    c.at.ensures c.value.new.seat.me c.value.ensures.seat.2
    (c.points_in_rounds.ensures.read l.strict l.root.value c.requires.waiting.rooted) c.in-Promise.cell
    (c.in-Promise.ensures.value (promise_seen c.in-Promise.cell)))

pub returns-in-Task-clause-goes : goal.returns-in-Task-clause-goes
returns-in-Task-clause-goes g c =
    let b = g.B.Body in let l = c.args.laid.now in
    let program = program_of b.places b.awaits b.left b.asks b.then in
    runs_then program l c.args.self.now.seat.me.0 c.value.new.seat.me c.add_reference-in-Task.new.rec _
    c.add_reference-in-Task.result c.add_reference-in-Task.ensures.runs c.add_reference-in-Task.ensures.rec
    (look_task program l c.args.rec.now c.args.at.place
    c.args.at.spare c.args.self.now.seat.me c.requires.runs c.requires.waiting c.at.result
    c.at.ensures c.value.new.seat.me c.value.ensures.seat.2
    (c.points_in_rounds.ensures.read l.strict l.root.value c.requires.waiting.rooted) c.in-Task.cell
    (c.in-Task.ensures.value (task_seen c.in-Task.cell)))

pub returns-in-Broken-clause-goes : goal.returns-in-Broken-clause-goes
returns-in-Broken-clause-goes g c =
    let b = g.B.Body in let l = c.args.laid.now in
    look_broken (program_of b.places b.awaits b.left b.asks b.then) l c.args.rec.now c.args.at.place
    c.args.at.spare c.args.self.now.seat.me c.requires.runs c.requires.waiting c.at.result
    c.at.ensures c.value.new.seat.me c.value.ensures.seat.2
    (c.points_in_rounds.ensures.read l.strict l.root.value c.requires.waiting.rooted) c.find_broken.result
    c.find_broken.new.rec c.find_broken.ensures.next c.find_broken.ensures.rec (c.in-Broken.ensures.value broken_seen)

pub returns-in-NotYet-clause-log : goal.returns-in-NotYet-clause-log
returns-in-NotYet-clause-log g c = value_grows c.args.self.now.seat c.value.new.seat c.value.result _
    c.value.ensures.log_not_yet c.value.ensures.log_value

pub returns-in-Num-clause-log : goal.returns-in-Num-clause-log
returns-in-Num-clause-log g c = value_grows c.args.self.now.seat c.value.new.seat c.value.result _
    c.value.ensures.log_not_yet c.value.ensures.log_value

pub returns-in-Promise-clause-log : goal.returns-in-Promise-clause-log
returns-in-Promise-clause-log g c = value_grows c.args.self.now.seat c.value.new.seat c.value.result _
    c.value.ensures.log_not_yet c.value.ensures.log_value

pub returns-in-Task-clause-log : goal.returns-in-Task-clause-log
returns-in-Task-clause-log g c = value_grows c.args.self.now.seat c.value.new.seat c.value.result _
    c.value.ensures.log_not_yet c.value.ensures.log_value

pub returns-in-Broken-clause-log : goal.returns-in-Broken-clause-log
returns-in-Broken-clause-log g c = value_grows c.args.self.now.seat c.value.new.seat c.value.result _
    c.value.ensures.log_not_yet c.value.ensures.log_value
