use Rattle.std.proofs.Common.{ap, Bool, Global, Vec}
use Rattle.tj_told.specs.ToldLinks.{IsSeenRound}
use Rattle.tj_told.proofs.KeptNews.{met_on, seen_on, with_cycle}
use Rattle.tj_told.proofs.Observing.{of_some}
use Rattle.tj_told.proofs.LoggedRounds.{alarm_seen}
use Rattle.tj_told.proofs.Climbing.{grows_by}
use Rattle.tj_told.proofs.Climbing.{looks_on, observes_on}
use Rattle.tj_told.proofs.Observing.{after_phase}
use Rattle.tj_told.proofs.observer.look_at_phase.Goals as goal

pub returns-then-not-has_alarmed-clause-seat : goal.returns-then-not-has_alarmed-clause-seat
returns-then-not-has_alarmed-clause-seat g c = let p = c.see_phase-phase in
    after_phase c.args.laid.now c.args.laid.now.cells c.args.t.0 p.result c.args.seat.now p.new.seat c.requires.seat
    p.ensures.seat p.ensures.view (grows_by p.ensures.log.0)

pub returns-in_err-meet-clause-seat : goal.returns-in_err-meet-clause-seat
returns-in_err-meet-clause-seat g c = let p = c.see_phase-phase in
    after_phase c.args.laid.now c.args.laid.now.cells c.args.t.0 p.result c.args.seat.now p.new.seat c.requires.seat
    p.ensures.seat p.ensures.view (grows_by p.ensures.log.0)

pub cycle_of-requires-clause-seat : goal.cycle_of-requires-clause-seat
cycle_of-requires-clause-seat g c κs within = let p = c.see_phase-phase in
    observes_on c.args.laid.now c.args.seat.now p.new.seat c.requires.seat
    (after_phase c.args.laid.now c.args.laid.now.cells c.args.t.0 p.result c.args.seat.now p.new.seat c.requires.seat
    p.ensures.seat p.ensures.view (grows_by p.ensures.log.0))

pub returns-in_err-links-clause-seat : goal.returns-in_err-links-clause-seat
returns-in_err-links-clause-seat g c = let p = c.see_phase-phase in
    looks_on c.args.seat.now p.new.seat c.cycle_of.new.seat
    (after_phase c.args.laid.now c.args.laid.now.cells c.args.t.0 p.result c.args.seat.now p.new.seat c.requires.seat
    p.ensures.seat p.ensures.view (grows_by p.ensures.log.0)) c.cycle_of.ensures.seat

pub returns-in-Some-clause-seat : goal.returns-in-Some-clause-seat
returns-in-Some-clause-seat g c = let p = c.see_phase-phase in
    looks_on c.args.seat.now p.new.seat c.cycle_of.new.seat
    (after_phase c.args.laid.now c.args.laid.now.cells c.args.t.0 p.result c.args.seat.now p.new.seat c.requires.seat
    p.ensures.seat p.ensures.view (grows_by p.ensures.log.0)) c.cycle_of.ensures.seat

pub returns-in-None-clause-seat : goal.returns-in-None-clause-seat
returns-in-None-clause-seat g c = let p = c.see_phase-phase in
    looks_on c.args.seat.now p.new.seat c.cycle_of.new.seat
    (after_phase c.args.laid.now c.args.laid.now.cells c.args.t.0 p.result c.args.seat.now p.new.seat c.requires.seat
    p.ensures.seat p.ensures.view (grows_by p.ensures.log.0)) c.cycle_of.ensures.seat

pub cycle_of-requires-clause-alarmed : goal.cycle_of-requires-clause-alarmed
cycle_of-requires-clause-alarmed g c κs within = let p = c.see_phase-phase in
    let a = c.has_alarmed.ensures c.if-not-has_alarmed.false in
    alarm_seen c.args.t.0 p.result a.0 a.1 c.args.seat.now.log p.new.seat.log a.2 p.ensures.log.0

pub returns-then-not-has_alarmed-clause-seen : goal.returns-then-not-has_alarmed-clause-seen
returns-then-not-has_alarmed-clause-seen g c wanted h = let p = c.see_phase-phase in let t = c.args.telling.now in
    seen_on c.args.seat.now p.new.seat t.met.items t.news
    (after_phase c.args.laid.now c.args.laid.now.cells c.args.t.0 p.result c.args.seat.now p.new.seat c.requires.seat
    p.ensures.seat p.ensures.view (grows_by p.ensures.log.0)) h

pub returns-in_err-meet-clause-seen : goal.returns-in_err-meet-clause-seen
returns-in_err-meet-clause-seen g c wanted h = let p = c.see_phase-phase in let t = c.args.telling.now in
    let m = c.in_err-meet in
    met_on p.new.seat t.met.items t.news (seen_on c.args.seat.now p.new.seat t.met.items t.news
    (after_phase c.args.laid.now c.args.laid.now.cells c.args.t.0 p.result c.args.seat.now p.new.seat c.requires.seat
    p.ensures.seat p.ensures.view (grows_by p.ensures.log.0)) h) c.meet.new.self.met.items m.ensures.kept
    c.meet.new.self.news m.ensures.news

pub returns-in_err-links-clause-seen : goal.returns-in_err-links-clause-seen
returns-in_err-links-clause-seen g c wanted h = let p = c.see_phase-phase in let n = c.cycle_of.new.seat in
    let t = c.args.telling.now in let m = c.in_ok-meet in
    met_on n t.met.items t.news (seen_on c.args.seat.now n t.met.items t.news
    (looks_on c.args.seat.now p.new.seat n
    (after_phase c.args.laid.now c.args.laid.now.cells c.args.t.0 p.result c.args.seat.now p.new.seat c.requires.seat
    p.ensures.seat p.ensures.view (grows_by p.ensures.log.0)) c.cycle_of.ensures.seat) h) c.meet.new.self.met.items
    m.ensures.kept c.meet.new.self.news m.ensures.news

pub returns-in-Some-clause-seen : goal.returns-in-Some-clause-seen
returns-in-Some-clause-seen g c wanted h = let p = c.see_phase-phase in let n = c.cycle_of.new.seat in
    let t = c.args.telling.now in let m = c.in_ok-meet in let w = c.meet.new.self in let x = c.tell_new in
    with_cycle n w.met.items w.news (met_on n t.met.items t.news (seen_on c.args.seat.now n t.met.items t.news
    (looks_on c.args.seat.now p.new.seat n
    (after_phase c.args.laid.now c.args.laid.now.cells c.args.t.0 p.result c.args.seat.now p.new.seat c.requires.seat
    p.ensures.seat p.ensures.view (grows_by p.ensures.log.0)) c.cycle_of.ensures.seat) h) w.met.items
    m.ensures.kept w.news m.ensures.news) x.new.self.news x.new.self.met.items
    (ap (λ (v : Vec Bool Global). v.items) x.ensures.met) c.in-Some.links x.ensures.only
    (of_some (λ z. IsSeenRound n.log n.me.0.seen z) c.in_ok-links.field-0 c.in-Some.links c.in-Some.is
    c.in_ok-links.ensures.round)

pub returns-in-None-clause-seen : goal.returns-in-None-clause-seen
returns-in-None-clause-seen g c wanted h = let p = c.see_phase-phase in let n = c.cycle_of.new.seat in
    let t = c.args.telling.now in let m = c.in_ok-meet in
    met_on n t.met.items t.news (seen_on c.args.seat.now n t.met.items t.news
    (looks_on c.args.seat.now p.new.seat n
    (after_phase c.args.laid.now c.args.laid.now.cells c.args.t.0 p.result c.args.seat.now p.new.seat c.requires.seat
    p.ensures.seat p.ensures.view (grows_by p.ensures.log.0)) c.cycle_of.ensures.seat) h) c.meet.new.self.met.items
    m.ensures.kept c.meet.new.self.news m.ensures.news
