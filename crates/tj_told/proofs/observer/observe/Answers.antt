use Rattle.std.proofs.Common.{◌≡◌, ◌∷◌, ap, sym, ◌∙◌}
use Rattle.tj_words.specs.CallLaws.StepCalls as call
use Rattle.tj_words.specs.CallLaws.StepLogs.{entry_of}
use Rattle.tj_told.proofs.Climbing.{grows_by}
use Rattle.tj_told.proofs.KeptNews.{seen_on}
use Rattle.tj_told.proofs.Climbing.{observes_on}
use Rattle.tj_told.proofs.Observing.{after_store}
use Rattle.tj_told.specs.declared.observer.Sight.TheVariants as sight
use Rattle.tj_told.proofs.observer.observe.Goals as goal

pub loop-i-preserved : goal.loop-i-preserved
loop-i-preserved g c = let i = c.loop-i.invariant in let l = c.look-sight in record {
  seat = observes_on c.args.laid.now c.loop-i.seat l.new.seat i.seat l.ensures.seat;
  lot = l.ensures.seat.more.lot ∙ i.lot;
  seen = λ h. l.ensures.seen (i.seen h);
  hears = λ seen s h. l.ensures.goes (i.seen seen) s (i.hears seen s h)
      (λ e. let z : sight.GoesOn ≡ sight.Stops = sym c.in-GoesOn.is ∙ e in absurd (cc));
}

pub returns-in-Ended-clause-seat : goal.returns-in-Ended-clause-seat
returns-in-Ended-clause-seat g c = let i = c.loop-i.invariant in let l = c.look-sight in
    observes_on c.args.laid.now c.loop-i.seat l.new.seat i.seat l.ensures.seat

pub returns-in-Stops-clause-seat : goal.returns-in-Stops-clause-seat
returns-in-Stops-clause-seat g c = let i = c.loop-i.invariant in let l = c.look-sight in let e = c.stop.ensures in
    observes_on c.args.laid.now l.new.seat c.stop.new.seat
    (observes_on c.args.laid.now c.loop-i.seat l.new.seat i.seat l.ensures.seat)
    (after_store c.word.result l.new.seat c.stop.new.seat e.table e.id e.me (grows_by e.log.0))

pub returns-in-Ended-clause-seen : goal.returns-in-Ended-clause-seen
returns-in-Ended-clause-seen g c h = c.look-sight.ensures.seen (c.loop-i.invariant.seen h)

pub returns-in-Stops-clause-seen : goal.returns-in-Stops-clause-seen
returns-in-Stops-clause-seen g c h = let l = c.look-sight in let e = c.stop.ensures in
    let on = after_store c.word.result l.new.seat c.stop.new.seat e.table e.id e.me (grows_by e.log.0) in
    seen_on l.new.seat c.stop.new.seat l.new.telling.met.items l.new.telling.news on
    (l.ensures.seen (c.loop-i.invariant.seen h))

pub returns-in-Stops-clause-stored : goal.returns-in-Stops-clause-stored
returns-in-Stops-clause-stored g c left = (
  c.look-sight.new.seat.log,
  c.stop.ensures.log.0 ∙ ap (λ n. entry_of call.stops n 0 n ∷ c.look-sight.new.seat.log) c.word.ensures.word,
)
