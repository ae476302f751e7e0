use mir.Syntax.{named, ty_ptr}
use denote.Exit.{no}
use denote.Param.{param}
use denote.Param.Send.{arg_send, param_send, shr_send}
use Rattle.tj_log.proofs.seat.LogSeat.TheSendSync as seat
use Rattle.std.proofs.Common.{[], ap, ◌∙◌, subst, sym}
use Rattle.std.proofs.Crossing.{send}
use Rattle.tj_body.specs.Programs.{program_of}
use Rattle.tj_words.specs.contracts.view.View as view
use Rattle.tj_run.proofs.Seats.ThreadSends.{laid_sync, seven_send, slot_send}
use Rattle.tj_told.proofs.KeptNews.{seen_own, seen_taken, stopped_own, stopped_taken}
use Rattle.tj_told.specs.SeenNews.{AreSeenBy, HasStopped}
use Rattle.tj_told.proofs.TakenSeats.{bell_sync, either_left, leaves_taken, telling_send, watch_send}
use Rattle.tj_told.proofs.run.work_told.Goals as goal

pub join-watched-requires-send-F : goal.join-watched-requires-send-F
join-watched-requires-send-F g c κs within =
    let r = c.requires.crosses.0 in let b = c.requires.crosses.2 in let t = c.requires.crosses.4 in
    let s = param_send 1 _ (arg_send ty_ptr no _ (seven_send [] _ _ _ _ _ _ _ (shr_send (named 0) _ _ r) send
    (shr_send (named 1) _ _ (laid_sync (param 0 g.row.B) g.B.Body b))
    (seat.the_send _ (view.the_row (param 0 g.row.B)) (slot_send (param 0 g.row.B) b)) watch_send
    (shr_send (named 3) _ _ bell_sync) (telling_send _ t))) in
    record { owned = s.owned; leaving = s.leaving }

pub returns-clause-left : goal.returns-clause-left
returns-clause-left g c = let b = g.B.Body in let joined = c.join-watched in
    leaves_taken (program_of b.places b.awaits b.left b.asks b.then) c.args.seat.me.0 c.requires.room
    joined.result.1.0 joined.result.0.0 c.take_in-seat.result.0 c.take_in-seat.result.1 joined.result.1.1
    c.split-mine.result.0.me.0 (ap (λ m. m.0) c.split-mine.ensures.view) joined.ensures.second.1
    (joined.ensures.first.3 ∙ ap (λ m. m.0.lot) c.split-mine.ensures.other_view) c.take_in-seat.ensures.rested
    c.take_in-seat.ensures.stopped

pub returns-clause-seen : goal.returns-clause-seen
returns-clause-seen g c none = let j = c.join-watched in let t = c.take_in-seat in
    let told = j.result.0.1.news in either_left t.result.1
    (λ rested. seen_taken j.result.1.0 j.result.0.0 t.result.0 j.result.0.1.met.items told
    (t.ensures.took rested) (t.ensures.rested rested).1 (j.ensures.first.4 none))
    (λ cause stopped. subst (λ z. AreSeenBy c.args.watch.wanted z told) (sym (t.ensures.stopped cause stopped).0)
    (seen_own j.result.0.0 j.result.0.1.met.items told (j.ensures.first.4 none)))

pub returns-clause-stored : goal.returns-clause-stored
returns-clause-stored g c left = let j = c.join-watched in let t = c.take_in-seat in
    let s = j.ensures.first.7 left in either_left t.result.1
    (λ rested. stopped_taken j.result.1.0 j.result.0.0 t.result.0 (t.ensures.took rested) s)
    (λ cause stopped. subst HasStopped (sym (t.ensures.stopped cause stopped).0) (stopped_own j.result.0.0 s))

pub returns-clause-goes : goal.returns-clause-goes
returns-clause-goes g c none s h n = c.join-watched.ensures.first.5 none s h n

pub returns-clause-stops : goal.returns-clause-stops
returns-clause-stops g c none s h e = c.join-watched.ensures.first.6 none s h e
