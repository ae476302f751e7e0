use Rattle.tj_run.proofs.Prelude.{HasLots, IsFree, IsLeft, SeatMe, Some, [], ap, arith, length, program_of, send, subst}
use Rattle.tj_run.proofs.Prelude.{sym, ◌<◌, ◌∙◌, ◌≡◌}
use mir.Syntax.{named, of_param, ty_ptr}
use denote.Exit.{no}
use denote.Param.{param}
use denote.Param.Send.{arg_send, param_send, shr_send}
use Rattle.std.proofs.Crossing.{Vec-send}
use Rattle.std.proofs.lemmas.List.Elements.{All-pop}
use Rattle.tj_run.proofs.Runs.TurnSteps.{turns_on}
use Rattle.tj_run.proofs.Seats.FreeSeats.{free_left, free_right}
use Rattle.tj_run.proofs.Seats.ThreadSends.{laid_sync, seven_send, slot_send, u32_send, unseen_quiet}
use Rattle.tj_run.proofs.Seats.SplitLots.{falls_by, length_last, lots_left, lots_same, lots_two, some_more}
use Rattle.tj_words.specs.contracts.view.View as view
use Rattle.tj_log.proofs.seat.LogSeat.TheSendSync as seat
use Rattle.tj_run.proofs.crew.+workers.Goals as goal

pub worker-requires-clause-pool : goal.worker-requires-clause-pool
worker-requires-clause-pool g t c κs within =
    (All-pop (λ end. g.P.Pool.limit end ≡ c.args.laid.now.cells) c.args.ends.items c.pop.new.self.items
    (Some c.in-Some.end) c.in-Some.ensures.items c.requires.pools).1

pub join-b-requires-send-F : goal.join-b-requires-send-F
join-b-requires-send-F g t c κs within =
    let r = c.requires.crosses.0 in let u = c.requires.crosses.1 in let b = c.requires.crosses.2 in
    let p = c.requires.crosses.3 in
    let s = param_send 1 _ (arg_send ty_ptr no _ (seven_send [] _ _ _ _ _ _ _
    (shr_send (named 6) κs.1.1.1.1.1.1.0 _ r) send
    (shr_send (named 7) κs.1.1.1.1.1.1.1.0 _ (laid_sync (param 0 g.row.B) g.B.Body b))
    (seat.the_send _ (view.the_row (param 0 g.row.B)) (slot_send (param 0 g.row.B) b)) (Vec-send (param 1 g.row.P) p)
    (shr_send (named 8) κs.1.1.1.1.1.1.1.1.0 _ u) u32_send)) in
    record { owned = s.owned; leaving = s.leaving }

pub join-b-requires-after_bounds : goal.join-b-requires-after_bounds
join-b-requires-after_bounds g t c κs within =
    let r = c.requires.crosses.0 in let u = c.requires.crosses.1 in let b = c.requires.crosses.2 in
    let p = c.requires.crosses.3 in let laid = c.args.laid.now in let me = c.wait_for_work.new.seat.me in
    let table = c.wait_for_work.ensures.table ∙ c.requires.table in
    let m = g.B.Body in
    let left : IsLeft laid c.args.seat.me.0 me = turns_on (program_of m.places m.awaits m.left m.asks m.then) laid
    c.wait_for_work.result c.in_default-wait_for_work.is c.args.seat.me.0 me c.wait_for_work.ensures.turns in
    let lots = lots_same (length c.args.ends.items) c.args.seat.me.0 me.0 left.knows.lot c.requires.lots in
    let s = c.split-mine.ensures in
    let pops = All-pop (λ end. g.P.Pool.limit end ≡ laid.cells) c.args.ends.items c.pop.new.self.items
    (Some c.in-Some.end) c.in-Some.ensures.items c.requires.pools in
    let last = length_last c.args.ends.items c.pop.new.self.items c.in-Some.end c.in-Some.ensures.items in
    let more = some_more c.pop.new.self.len c.if-is_empty.ensures in
    let rest : 0 < length c.pop.new.self.items = let l = c.pop.new.self.ok.0 in omega arith in (
      (
        falls_by (length c.args.ends.items) (length c.pop.new.self.items) t last c.decreases,
        (
          λ a m. m,
          (
            λ a m. m,
            (
              λ a m. m,
              (
                λ a m. m,
                (
                  (
                    r,
                    u,
                    b,
                    p,
                    s.table ∙ table,
                    subst (IsFree laid) (sym s.view)
                        (free_left laid me (lots_two lots last rest) left.free),
                    c.requires.rooted,
                    pops.0,
                    subst (λ v. HasLots (length c.pop.new.self.items) v)
                        (sym (ap (λ (m : SeatMe g.row.B.Denot). m.0) s.view))
                        (lots_left lots last rest),
                  ),
                  (b, p, u, r),
                ),
              ),
            ),
          ),
        ),
      ),
      (
        (
          record { shared = r.shared },
          record { shared = u.shared },
          record { owned = b.owned; leaving = λ k. unseen_quiet (k (of_param 0)) },
          record { owned = p.owned; leaving = λ k. unseen_quiet (k (of_param 1)) },
          s.other_table ∙ table,
          subst (IsFree laid) (sym s.other_view) (free_right laid me left.free),
          c.requires.rooted,
          pops.1,
        ),
        (
          record { owned = b.owned; leaving = λ k. unseen_quiet (k (of_param 0)) },
          record { owned = p.owned; leaving = λ k. unseen_quiet (k (of_param 1)) },
          record { shared = u.shared },
          record { shared = r.shared },
        ),
      ),
    )
