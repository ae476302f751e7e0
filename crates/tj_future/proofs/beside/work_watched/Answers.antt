use mir.Syntax.{named, ty_ptr}
use denote.Exit.{no}
use denote.Param.{param}
use denote.Param.Send.{arg_send, param_send, shr_send}
use Rattle.tj_log.proofs.seat.LogSeat.TheSendSync as seat
use Rattle.std.proofs.Common.{[], ap, subst}
use Rattle.tj_body.specs.Programs.{program_of}
use Rattle.tj_words.specs.contracts.view.View as view
use Rattle.tj_run.proofs.Seats.ThreadSends.{laid_sync, slot_send}
use Rattle.tj_future.specs.Looks.{IsWatched}
use Rattle.tj_future.proofs.TakenSeats.{leaves_taken}
use Rattle.tj_future.proofs.ThreadSends.{three_send}
use Rattle.tj_future.proofs.beside.work_watched.Goals as goal

pub join-watched-requires-send-F : goal.join-watched-requires-send-F
join-watched-requires-send-F g c κs within =
    let r = c.requires.crosses.0 in let b = c.requires.crosses.2 in
    let s = param_send 1 _ (arg_send ty_ptr no _ (three_send [] _ _ _ (shr_send (named 0) _ _ r)
    (shr_send (named 1) _ _ (laid_sync (param 0 g.row.B) g.B.Body b))
    (seat.the_send _ (view.the_row (param 0 g.row.B)) (slot_send (param 0 g.row.B) b)))) in
    record { owned = s.owned; leaving = s.leaving }

pub returns-clause-left : goal.returns-clause-left
returns-clause-left g c = let b = g.B.Body in let joined = c.join-watched in
    leaves_taken (program_of b.places b.awaits b.left b.asks b.then) c.args.laid.now.cells 0 c.args.seat.me.0
    c.requires.room joined.result.1.0 joined.result.0.1 c.take_in-seat.result.0 c.take_in-seat.result.1
    joined.result.1.1 joined.result.0.0 c.split-mine.result.0.me.0 c.split-mine.result.1.me.0
    (ap (λ m. m.0) c.split-mine.ensures.view) (ap (λ m. m.0) c.split-mine.ensures.other_view)
    joined.ensures.second.1 joined.ensures.first.3 joined.ensures.first.4 c.take_in-seat.ensures.rested c.take_in-seat.ensures.stopped

pub returns-clause-watched : goal.returns-clause-watched
returns-clause-watched g c = let b = g.B.Body in let joined = c.join-watched in
    let p = program_of b.places b.awaits b.left b.asks b.then in record {
      given = joined.result.0.1;
      watch = record {
        begun = c.split-mine.result.1;
        view = c.split-mine.ensures.other_view;
        fresh = (c.split-mine.ensures.log.1, c.split-mine.ensures.took.1);
        watched = subst (λ z. IsWatched p c.args.laid.now.cells 0 joined.result.0.0 z joined.result.0.1.me.0)
            (ap (λ m. m.0) c.split-mine.ensures.other_view) joined.ensures.first.4;
        looks = joined.ensures.first.5;
      };
      runs_on = c.take_in-seat.ensures.runs_on;
      taken = λ e. (
        joined.result.1.0.me.0,
        (c.take_in-seat.ensures.rested e).1,
        c.take_in-seat.ensures.took e,
      );
    }
