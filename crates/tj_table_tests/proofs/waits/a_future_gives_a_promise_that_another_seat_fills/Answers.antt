use Rattle.tj_run.proofs.Prelude.{IsFree, SeatMe, [], arith, subst, sym, ◌∙◌}
use Rattle.tj_body.specs.declared.table.TableBody.{TableBody}
use Rattle.tj_words.specs.SeatViews.Views.{IsIdle, right_half}
use Rattle.tj_run.proofs.Seats.FreeSeats.{free_idle, free_left, free_right}
use Rattle.tj_table_tests.proofs.SecondSeats.{free_still}
use Rattle.tj_table_tests.proofs.TestRuns.{all_large, may_split}
use Rattle.tj_table_tests.proofs.waits.a_future_gives_a_promise_that_another_seat_fills.Given.{Over}
use Rattle.tj_table_tests.proofs.waits.a_future_gives_a_promise_that_another_seat_fills.Goals as goal
use Rattle.tj_table_tests.proofs.waits.a_future_gives_a_promise_that_another_seat_fills.Goals.{In-None}

pub look_at-requires-clause-idle : goal.look_at-requires-clause-idle
look_at-requires-clause-idle g c κs = let t = c.table_of-rig in
    free_idle t.result.0.laid t.result.1.me t.ensures.free

-- the seat has looked at the root, and is free still
free : (g : Over) (c : In-None g) → IsFree c.table_of-rig.result.0.laid c.look_at.new.seat.me
free g c = let t = c.table_of-rig in
    free_still t.result.0.laid 0 t.result.1.me c.look_at.new.seat.me (c.look_at.ensures.none c.in-None.is)
    t.ensures.free c.look_at.ensures.slots

pub split-first-requires-clause-room : goal.split-first-requires-clause-room
split-first-requires-clause-room g c κs =
    may_split c.table_of-rig.result.0.laid c.look_at.new.seat.me
    (free g (goal.at.split-first-requires-clause-room g c).In-None)
    (c.look_at.ensures.lot ∙ c.table_of-rig.ensures.lot)

pub begin-root-requires-clause-begins : goal.begin-root-requires-clause-begins
begin-root-requires-clause-begins g c κs =
    let l = c.table_of-rig.result.0.laid in let m = c.look_at.new.seat.me in record {
      free = subst (IsFree l) (sym c.split-first.ensures.view)
          (free_left l m (all_large l m (c.look_at.ensures.lot ∙ c.table_of-rig.ensures.lot))
          (free g (goal.at.begin-root-requires-clause-begins g c).In-None));
      there = (let e = c.table_of-rig.ensures.cells in omega arith);
      rooted = c.table_of-rig.ensures.rooted;
    }

pub new-requires-clause-idle : goal.new-requires-clause-idle
new-requires-clause-idle g c κs = let l = c.table_of-rig.result.0.laid in let m = c.look_at.new.seat.me in
    subst (λ (x : SeatMe TableBody). IsIdle x.0) (sym c.split-first.ensures.other_view)
    (free_idle l (right_half m.0, []) (free_right l m (free g (goal.at.new-requires-clause-idle g c).In-None)))

pub fill-requires-clause-owner : goal.fill-requires-clause-owner
fill-requires-clause-owner g c κs = rw c.cell.ensures c.to_set-told.ensures.gives
