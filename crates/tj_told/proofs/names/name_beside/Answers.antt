use Rattle.std.proofs.Common.{◌∙◌}
use Rattle.tj_told.proofs.Climbing.{climbed, climbed_seen, climbs_on, looked, shorter}
use Rattle.tj_told.proofs.names.name_beside.Goals as goal

pub returns-in_err-push-clause-seat : goal.returns-in_err-push-clause-seat
returns-in_err-push-clause-seat g c = let l = c.loop-at in let m = c.maker_of-number in
    looked c.args.laid.now.cells l.at m.result.0.0 m.result.1 l.seat m.new.seat m.ensures.seat m.ensures.maker
    c.loop-at-test.true c.args.seat.now c.args.c.0 l.parts.items l.invariant

pub loop-at-smaller : goal.loop-at-smaller
loop-at-smaller g c = let l = c.loop-at in let m = c.maker_of-number in
    shorter c.args.laid.now.cells l.at m.result.0.0 m.result.1 l.seat m.new.seat m.ensures.seat m.ensures.maker
    c.loop-at-test.true l.invariant.here l.invariant.here_is

pub loop-at-preserved : goal.loop-at-preserved
loop-at-preserved g c = let l = c.loop-at in let m = c.maker_of-number in
    climbs_on c.args.laid.now.cells l.at m.result.0.0 m.result.1 l.seat m.new.seat m.ensures.seat m.ensures.maker
    c.loop-at-test.true c.args.seat.now c.args.c.0 l.parts.items l.invariant c.push.new.self.items
    c.in_ok-push.ensures.items

pub returns-clause-name : goal.returns-clause-name
returns-clause-name g c = let l = c.loop-at in
    climbed c.args.laid.now.cells c.args.seat.now l.seat c.args.c.0 l.at l.parts.items l.invariant
    c.requires.seat.root c.loop-at-test.false c.with_numbers.result c.as_slice.result.now
    (c.as_slice.ensures.value ∙ c.reverse.ensures.items) c.with_numbers.ensures

pub returns-clause-seen : goal.returns-clause-seen
returns-clause-seen g c = let l = c.loop-at in
    climbed_seen c.args.laid.now.cells c.args.seat.now l.seat c.args.c.0 l.at l.parts.items l.invariant
    c.requires.seat.root c.loop-at-test.false c.with_numbers.result c.as_slice.result.now
    (c.as_slice.ensures.value ∙ c.reverse.ensures.items) c.with_numbers.ensures
