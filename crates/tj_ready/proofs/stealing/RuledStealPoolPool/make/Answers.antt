use Rattle.std.proofs.Common.{◌≡◌, ◌∙◌, All, length, map, get_or, ap, sym, subst, arith}
use Rattle.std.proofs.lemmas.List.{length-map}
use Rattle.crossbeam_deque.specs.Handles.{worker_deque}
use Rattle.tj_ready.specs.Seats.{IsHand}
use Rattle.tj_ready.specs.Stealing.{IsNewEnd, deque_of, reach_of}
use Rattle.tj_ready.proofs.Meetings.{ends_meet}
use Rattle.tj_ready.proofs.Steps.{one_end_more}
use Rattle.tj_ready.proofs.stealing.RuledStealPoolPool.make.Goals as goal

pub loop-i-preserved : goal.loop-i-preserved
loop-i-preserved g c =
    let inv = c.loop-i.invariant in
    let hand = c.in_ok-seats_of.ensures in
    let before = c.loop-i.owners.items in
    let after = c.seats_of.new.owners.items in
    let hands = c.loop-i.hands.items in
    let other = g.K.PoolRule.other c.args.cells in
    let size : length after ≡ length before =
    sym (length-map after worker_deque) ∙ ap length hand.1 ∙ length-map before worker_deque in
    let below = c.loop-i-test.true in
    let more = one_end_more (λ seats. IsHand (map worker_deque after) other seats.items) hands _ _ c.loop-i._i
    c.in_ok-push.ensures.items inv.3 (subst (λ ds. IsHand ds other c.in_ok-seats_of.field-0.items) (sym hand.1) hand.2)
    (subst (λ ds. All (λ seats. IsHand ds other seats.items) hands) (sym hand.1) inv.5) in
    (hand.0, size ∙ inv.1, inv.2 ∙ sym hand.1, more.0, omega arith, more.1)

pub returns-clause-workers : goal.returns-clause-workers
returns-clause-workers g c =
    let made = c.in_ok-ends.ensures in
    let ends = c.in_ok-ends.ends.items in
    let owners = c.loop-i.owners.items in
    sym (length-map ends deque_of) ∙ ap length made.own ∙ length-map owners worker_deque ∙ c.loop-i.invariant.1

pub returns-clause-limit : goal.returns-clause-limit
returns-clause-limit g c = λ i end less. (c.in_ok-ends.ensures.new i end less).size

pub returns-clause-meet : goal.returns-clause-meet
returns-clause-meet g c =
    let made = c.in_ok-ends.ensures in
    ends_meet deque_of reach_of c.in_ok-ends.ends.items _ made.own made.reach

pub returns-clause-new : goal.returns-clause-new
returns-clause-new g c =
    λ i end less. let new = c.in_ok-ends.ensures.new i end less in
    subst (λ n. IsNewEnd n (get_or c.in_ok-ends.ends.items i end)) (sym new.size) new
