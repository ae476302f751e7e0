use Rattle.std.proofs.Common.{ap, Ok, ◌∙◌}
use Rattle.tj_told.specs.declared.listener.Goes.{Goes}
use Rattle.tj_told.proofs.Climbing.{grows_by}
use Rattle.tj_told.proofs.KeptNews.{seen_on}
use Rattle.tj_told.proofs.Climbing.{looks_itself, looks_on, observes_on}
use Rattle.tj_told.proofs.Hearings.{on_no_stop}
use Rattle.tj_told.proofs.Observing.{after_count, after_live, after_stop}
use Rattle.tj_told.proofs.observer.look.Goals as goal

pub returns-then-stopped-ne0-clause-seat : goal.returns-then-stopped-ne0-clause-seat
returns-then-stopped-ne0-clause-seat g c = let a = c.args.seat.now in let s = c.stopped in
    after_stop s.result a a s.new.seat (looks_itself a) s.ensures.seat s.ensures.view (grows_by s.ensures.log.0)

pub returns-then-live-eq0-clause-seat : goal.returns-then-live-eq0-clause-seat
returns-then-live-eq0-clause-seat g c = let a = c.args.seat.now in let s = c.stopped in let l = c.live in
    after_live l.result a s.new.seat l.new.seat
    (after_stop s.result a a s.new.seat (looks_itself a) s.ensures.seat s.ensures.view
    (grows_by s.ensures.log.0)) l.ensures.seat l.ensures.rested
    l.ensures.live (grows_by l.ensures.log.0)

pub loop-c-init : goal.loop-c-init
loop-c-init g c =
    let a = c.args.seat.now in let s = c.stopped in let l = c.live in let n = c.count-drawn in record {
      looks = after_count c.args.laid.now.cells n.result a l.new.seat n.new.seat
          (after_live l.result a s.new.seat l.new.seat
          (after_stop s.result a a s.new.seat (looks_itself a) s.ensures.seat s.ensures.view
          (grows_by s.ensures.log.0)) l.ensures.seat
          l.ensures.rested l.ensures.live (grows_by l.ensures.log.0)) n.ensures.seat n.ensures.view
          (grows_by n.ensures.log.2.0);
      seen = λ h. seen_on a n.new.seat c.args.telling.now.met.items c.args.telling.now.news
          (after_count c.args.laid.now.cells n.result a l.new.seat n.new.seat
          (after_live l.result a s.new.seat l.new.seat
          (after_stop s.result a a s.new.seat (looks_itself a) s.ensures.seat s.ensures.view
          (grows_by s.ensures.log.0)) l.ensures.seat
          l.ensures.rested l.ensures.live (grows_by l.ensures.log.0)) n.ensures.seat n.ensures.view
          (grows_by n.ensures.log.2.0)) h;
      hears = λ seen s h. h;
    }

pub look_at-requires-clause-seat : goal.look_at-requires-clause-seat
look_at-requires-clause-seat g c κs within =
    observes_on c.args.laid.now c.args.seat.now c.loop-c.seat c.requires.seat c.loop-c.invariant.looks

pub returns-in-Ok-Stop-clause-seat : goal.returns-in-Ok-Stop-clause-seat
returns-in-Ok-Stop-clause-seat g c =
    looks_on c.args.seat.now c.loop-c.seat c.look_at.new.seat c.loop-c.invariant.looks c.look_at.ensures.seat

pub returns-in-Err-clause-seat : goal.returns-in-Err-clause-seat
returns-in-Err-clause-seat g c =
    looks_on c.args.seat.now c.loop-c.seat c.look_at.new.seat c.loop-c.invariant.looks c.look_at.ensures.seat

pub loop-c-preserved : goal.loop-c-preserved
loop-c-preserved g c = let i = c.loop-c.invariant in record {
  looks = looks_on c.args.seat.now c.loop-c.seat c.look_at.new.seat i.looks c.look_at.ensures.seat;
  seen = λ h. c.look_at.ensures.seen (i.seen h);
  hears = λ seen s h. c.look_at.ensures.goes (i.seen seen) s (i.hears seen s h)
      (on_no_stop c.look_at.result c.in-Ok-On.field-0 c.in-Ok-On.is c.in-Ok-On.field-0-is);
}

pub returns-then-stopped-ne0-clause-seen : goal.returns-then-stopped-ne0-clause-seen
returns-then-stopped-ne0-clause-seen g c h = let a = c.args.seat.now in let s = c.stopped in
    let on = after_stop s.result a a s.new.seat (looks_itself a) s.ensures.seat s.ensures.view
    (grows_by s.ensures.log.0) in
    seen_on a s.new.seat c.args.telling.now.met.items c.args.telling.now.news on h

pub returns-then-live-eq0-clause-seen : goal.returns-then-live-eq0-clause-seen
returns-then-live-eq0-clause-seen g c h = let a = c.args.seat.now in let s = c.stopped in let l = c.live in
    let on = after_live l.result a s.new.seat l.new.seat
    (after_stop s.result a a s.new.seat (looks_itself a) s.ensures.seat s.ensures.view (grows_by s.ensures.log.0))
    l.ensures.seat l.ensures.rested l.ensures.live (grows_by l.ensures.log.0) in
    seen_on a l.new.seat c.args.telling.now.met.items c.args.telling.now.news on h

pub returns-in-Ok-Stop-clause-seen : goal.returns-in-Ok-Stop-clause-seen
returns-in-Ok-Stop-clause-seen g c h = c.look_at.ensures.seen (c.loop-c.invariant.seen h)

pub returns-in-Err-clause-seen : goal.returns-in-Err-clause-seen
returns-in-Err-clause-seen g c h = c.look_at.ensures.seen (c.loop-c.invariant.seen h)

pub returns-in-Ok-Stop-clause-stops : goal.returns-in-Ok-Stop-clause-stops
returns-in-Ok-Stop-clause-stops g c seen s h n = let i = c.loop-c.invariant in
    c.look_at.ensures.stops (i.seen seen) s (i.hears seen s h)
    (c.in-Ok-Stop.is ∙ ap (λ (z : Goes). Ok z) c.in-Ok-Stop.field-0-is)
