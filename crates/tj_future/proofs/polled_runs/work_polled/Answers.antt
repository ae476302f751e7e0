use mir.Syntax.{named, ty_ptr}
use denote.Exit.{no}
use denote.Param.{param}
use denote.Param.Send.{arg_send, param_send, shr_send}
use Rattle.tj_log.proofs.seat.LogSeat.TheSendSync as seat
use Rattle.std.proofs.Common.{◌≡◌, [], Option, ap, subst}
use Rattle.tj_body.specs.Programs.{program_of}
use Rattle.tj_log.specs.Shown.{SeatShown}
use Rattle.tj_words.specs.contracts.view.View as view
use Rattle.tj_words.specs.SeatViews.Views.{IsIdle}
use Rattle.tj_record.specs.declared.record.Rec.{Rec}
use Rattle.tj_words.specs.declared.view.View.{View}
use Rattle.tj_run.proofs.Seats.ThreadSends.{laid_sync, slot_send}
use Rattle.tj_future.specs.LookLogs.{MakesLooks}
use Rattle.tj_future.specs.Looks.{IsWatched}
use Rattle.tj_future.specs.declared.watched.Watched.{Watched}
use Rattle.tj_future.proofs.TakenSeats.{leaves_taken, of_some}
use Rattle.tj_future.proofs.ThreadSends.{cell_send, four_send}
use Rattle.tj_future.proofs.polled_runs.work_polled.Goals as goal

pub join-waited-requires-send-F : goal.join-waited-requires-send-F
join-waited-requires-send-F g c κs within =
    let r = c.requires.crosses.0 in let b = c.requires.crosses.2 in
    let s = param_send 1 _ (arg_send ty_ptr no _ (four_send [] _ _ _ _ (shr_send (named 0) _ _ r)
    (shr_send (named 1) _ _ (laid_sync (param 0 g.row.B) g.B.Body b))
    (seat.the_send _ (view.the_row (param 0 g.row.B)) (slot_send (param 0 g.row.B) b)) cell_send)) in
    record { owned = s.owned; leaving = s.leaving }

pub returns-clause-left : goal.returns-clause-left
returns-clause-left g c = let b = g.B.Body in let p = program_of b.places b.awaits b.left b.asks b.then in
    let joined = c.join-waited in let split = c.split-mine in let took = c.take_in-seat in let k = c.args.p.0 in
    let theirs = split.result.1 in let given = c.in-Some.given in
    let P : Watched × SeatShown (Option (Rec g.row.B.Denot)) (View g.row.B.Denot) → Type 0 =
    λ z. (z.1.table_id ≡ theirs.table_id) × IsIdle z.1.me.0 × (z.1.me.1 ≡ []) × (z.1.me.0.lot ≡ theirs.me.0.lot)
    × IsWatched p c.args.laid.now.cells k z.0 theirs.me.0 z.1.me.0 × MakesLooks k z.0 theirs z.1 in
    let h = of_some P joined.result.0 given c.in-Some.is joined.ensures.first in
    leaves_taken p c.args.laid.now.cells k c.args.seat.me.0 c.requires.room joined.result.1.0 given.1 took.result.0
    took.result.1 joined.result.1.1 given.0 split.result.0.me.0 theirs.me.0 (ap (λ m. m.0) split.ensures.view)
    (ap (λ m. m.0) split.ensures.other_view) joined.ensures.second.1 h.3 h.4 took.ensures.rested took.ensures.stopped

pub returns-clause-watched : goal.returns-clause-watched
returns-clause-watched g c = let b = g.B.Body in let p = program_of b.places b.awaits b.left b.asks b.then in
    let joined = c.join-waited in let split = c.split-mine in let took = c.take_in-seat in let k = c.args.p.0 in
    let theirs = split.result.1 in let given = c.in-Some.given in
    let P : Watched × SeatShown (Option (Rec g.row.B.Denot)) (View g.row.B.Denot) → Type 0 =
    λ z. (z.1.table_id ≡ theirs.table_id) × IsIdle z.1.me.0 × (z.1.me.1 ≡ []) × (z.1.me.0.lot ≡ theirs.me.0.lot)
    × IsWatched p c.args.laid.now.cells k z.0 theirs.me.0 z.1.me.0 × MakesLooks k z.0 theirs z.1 in
    let h = of_some P joined.result.0 given c.in-Some.is joined.ensures.first in record {
      given = given.1;
      watch = record {
        begun = theirs;
        view = split.ensures.other_view;
        fresh = (split.ensures.log.1, split.ensures.took.1);
        watched = subst (λ z. IsWatched p c.args.laid.now.cells k given.0 z given.1.me.0)
            (ap (λ m. m.0) split.ensures.other_view) h.4;
        looks = h.5;
      };
      runs_on = took.ensures.runs_on;
      taken = λ e. (joined.result.1.0.me.0, (took.ensures.rested e).1, took.ensures.took e);
    }
