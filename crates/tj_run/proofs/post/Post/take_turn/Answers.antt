use Rattle.tj_run.proofs.Prelude.{Bool, IsLeft, Program, about_table, program_of, tail_on, ◌∙◌}
use Rattle.tj_run.proofs.Runs.TurnSteps.{claimed_back, if_found_since, left_missed, left_unstopped}
use Rattle.tj_run.proofs.Runs.TurnSteps.{found_since, stopped_since, turns_since}
use Rattle.tj_run.proofs.Seats.WorkersSteps.{left_on}
use Rattle.tj_run.specs.declared.why.Left.TheVariants as left
use Rattle.tj_run.proofs.post.Post.take_turn.Given.{Over}
use Rattle.tj_run.proofs.post.Post.take_turn.Goals as goal
use Rattle.tj_run.proofs.post.Post.take_turn.Goals.{In_default}
use Rattle.tj_cells.proofs.CallLogs.{grows_by, grows_on}
use Rattle.tj_run.proofs.Seats.LogGrowth.{ends_grow, ends_since, if_ends_since}
use Rattle.std.proofs.Common.{[], ◌∷◌}

-- the program that runs
abbrev program : (g : Over) → Bool → g.row.B.Denot → Program g.row.B.Denot
program g = let b = g.B.Body in program_of b.places b.awaits b.left b.asks b.then

-- the seat is free after the load of STOP
on : (g : Over) (c : In_default g) → IsLeft c.args.laid.now c.args.self.now.seat.me.0 c.stop_word.new.seat.me
on g c = left_unstopped c.args.laid.now c.args.self.now.seat.me c.stop_word.new.seat.me c.requires.free
    (c.stop_word.ensures.none c.in_default.is) c.stop_word.ensures.seat.2

pub claim-requires-clause-knows : goal.claim-requires-clause-knows
claim-requires-clause-knows g c κs within = let at = goal.at.claim-requires-clause-knows g c in
    (about_table c.args.laid.now, (on g at.In_default).free.worker.of_table)

pub returns-in_default-take-clause-turns : goal.returns-in_default-take-clause-turns
returns-in_default-take-clause-turns g c = let at = goal.at.returns-in_default-take-clause-turns g c in
    turns_since (program g) c.args.laid.now c.args.self.now.seat.me.0 c.stop_word.new.seat.me.0 c.idle.result
    (on g at.In_default).knows c.idle.new.seat.me c.idle.ensures.turns

pub returns-in_default-take-clause-found : goal.returns-in_default-take-clause-found
returns-in_default-take-clause-found g c = let at = goal.at.returns-in_default-take-clause-found g c in
    if_found_since c.idle.result c.args.self.now.seat.me.0 c.stop_word.new.seat.me.0
    c.idle.new.seat.me.0 (on g at.In_default).knows.notes c.idle.ensures.found

pub run-requires-clause-back : goal.run-requires-clause-back
run-requires-clause-back g c κs within = let at = goal.at.run-requires-clause-back g c in
    let e = c.in-Some-claim.ensures in
    claimed_back (program g) c.args.laid.now c.in-Some-claim.rec c.in-Some-take.t.0 c.stop_word.new.seat.me
    c.claim.new.seat.me (on g at.In_default).free c.requires.rooted e.some e.slot

pub returns-in-Ok-clause-turns : goal.returns-in-Ok-clause-turns
returns-in-Ok-clause-turns g c = let at = goal.at.returns-in-Ok-clause-turns g c in
    let knows = (on g at.In_default).knows in let old = c.args.self.now.seat.me.0 in
    left_on c.args.laid.now old c.stop_word.new.seat.me.0 knows c.run.new.self.seat.me
    (left_on c.args.laid.now c.stop_word.new.seat.me.0 c.claim.new.seat.me.0 c.in-Some-claim.ensures.some.knows
    c.run.new.self.seat.me c.in-Ok.ensures.left)

pub returns-in_default-claim-clause-turns : goal.returns-in_default-claim-clause-turns
returns-in_default-claim-clause-turns g c = let at = goal.at.returns-in_default-claim-clause-turns g c in
    let m = c.claim.ensures.none c.in_default-claim.is in let on = on g at.In_default in let l = c.args.laid.now in
    left_on l c.args.self.now.seat.me.0 c.stop_word.new.seat.me.0 on.knows c.claim.new.seat.me
    (left_missed l c.in-Some-take.t.0 c.stop_word.new.seat.me c.claim.new.seat.me on.free (m.0, m.1, m.2))

pub returns-in-Err-clause-turns : goal.returns-in-Err-clause-turns
returns-in-Err-clause-turns g c = let at = goal.at.returns-in-Err-clause-turns g c in
    stopped_since (program g) c.args.self.now.seat.me.0 c.run.new.self.seat.me.0 c.stop_run.new.seat.me.0
    c.stop_run.result
    (c.in-Err.ensures.stays.1.about ∙ c.in-Some-claim.ensures.some.knows.about ∙ (on g at.In_default).knows.about)
    c.stop_run.ensures.stopped

pub returns-in-Err-clause-found : goal.returns-in-Err-clause-found
returns-in-Err-clause-found g c = let at = goal.at.returns-in-Err-clause-found g c in
    let old = c.args.self.now.seat.me.0 in let now = c.stop_word.new.seat.me.0 in
    found_since (left.Stopped c.stop_run.result) old c.run.new.self.seat.me.0 c.stop_run.new.seat.me.0
    (tail_on old.notes c.claim.new.seat.me.0.notes c.run.new.self.seat.me.0.notes
    (tail_on old.notes now.notes c.claim.new.seat.me.0.notes (on g at.In_default).knows.notes
    c.in-Some-claim.ensures.some.knows.notes) c.in-Err.ensures.stays.1.notes)
    c.stop_run.ensures.found

pub returns-in_default-take-clause-log : goal.returns-in_default-take-clause-log
returns-in_default-take-clause-log g c =
    if_ends_since c.idle.result c.args.self.now.seat c.stop_word.new.seat c.idle.new.seat
    c.stop_word.ensures.grows c.idle.ensures.log

pub returns-in_default-take-clause-grows : goal.returns-in_default-take-clause-grows
returns-in_default-take-clause-grows g c = grows_on c.args.self.now.seat c.stop_word.new.seat c.idle.new.seat
    c.stop_word.ensures.grows c.idle.ensures.grows

pub returns-in_default-claim-clause-grows : goal.returns-in_default-claim-clause-grows
returns-in_default-claim-clause-grows g c = let m = c.claim.ensures.none c.in_default-claim.is in
    grows_on c.args.self.now.seat c.stop_word.new.seat c.claim.new.seat c.stop_word.ensures.grows
    (grows_by c.stop_word.new.seat c.claim.new.seat (_ ∷ []) m.3)

pub returns-in-Ok-clause-grows : goal.returns-in-Ok-clause-grows
returns-in-Ok-clause-grows g c = grows_on c.args.self.now.seat c.claim.new.seat c.run.new.self.seat
    (grows_on c.args.self.now.seat c.stop_word.new.seat c.claim.new.seat c.stop_word.ensures.grows
    (grows_by c.stop_word.new.seat c.claim.new.seat (_ ∷ []) (c.in-Some-claim.ensures.log_some (λ e. cc))))
    c.run.ensures.log

pub returns-in-Err-clause-log : goal.returns-in-Err-clause-log
returns-in-Err-clause-log g c = ends_since (left.Stopped c.stop_run.result) c.args.self.now.seat c.run.new.self.seat
    c.stop_run.new.seat (grows_on c.args.self.now.seat c.claim.new.seat c.run.new.self.seat
    (grows_on c.args.self.now.seat c.stop_word.new.seat c.claim.new.seat c.stop_word.ensures.grows
    (grows_by c.stop_word.new.seat c.claim.new.seat (_ ∷ []) (c.in-Some-claim.ensures.log_some (λ e. cc))))
    c.run.ensures.log) c.stop_run.ensures.log

pub returns-in-Err-clause-grows : goal.returns-in-Err-clause-grows
returns-in-Err-clause-grows g c = grows_on c.args.self.now.seat c.run.new.self.seat c.stop_run.new.seat
    (grows_on c.args.self.now.seat c.claim.new.seat c.run.new.self.seat
    (grows_on c.args.self.now.seat c.stop_word.new.seat c.claim.new.seat c.stop_word.ensures.grows
    (grows_by c.stop_word.new.seat c.claim.new.seat (_ ∷ []) (c.in-Some-claim.ensures.log_some (λ e. cc))))
    c.run.ensures.log)
    (ends_grow (left.Stopped c.stop_run.result) c.run.new.self.seat c.stop_run.new.seat c.stop_run.ensures.log)
