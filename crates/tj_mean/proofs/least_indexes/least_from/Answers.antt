use Rattle.std.proofs.Common.{◌+◌, refl, arith}
use Rattle.tj_mean.proofs.Outcomes.LeastIndexes.{round_goes_on, round_closes, round_stops, round_ends}
use Rattle.tj_mean.proofs.least_indexes.least_from.Goals as goal

pub returns-in_default-clause-least : goal.returns-in_default-clause-least
returns-in_default-clause-least c m ps k i =
    let l = c.loop-step in
    round_stops c.args.next.now c.args.from l.step l.at l.least l.invariant m c.in_default.is ps k i

pub returns-then-owner-from-clause-least : goal.returns-then-owner-from-clause-least
returns-then-owner-from-clause-least c m ps k i =
    let l = c.loop-step in
    round_closes c.args.next.now c.args.from l.step l.at l.least l.invariant m c.in-Some.owner c.in-Some.is
    c.if-owner-from.true ps k i

pub loop-step-preserved : goal.loop-step-preserved
loop-step-preserved c =
    let l = c.loop-step in
    let other = c.if-owner-from.false in
    round_goes_on c.args.next.now c.args.from l.step l.at l.least l.invariant c.in-Some.owner c.smaller-least.result
    (l.step + 1) c.in-Some.is other (c.requires.indexes l.at c.in-Some.owner c.in-Some.is)
    c.smaller-least.ensures.first c.smaller-least.ensures.second c.smaller-least.ensures.one refl

pub returns-clause-least : goal.returns-clause-least
returns-clause-least c m ps k i =
    let l = c.loop-step in
    let ended = c.loop-step-test.false in
    round_ends c.args.next.now c.args.from l.step l.at l.least l.invariant m (omega arith) ps k i
