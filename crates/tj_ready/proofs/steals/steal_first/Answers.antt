use Rattle.std.proofs.Common.{◌<◌, ◌+◌, ◌∙◌, All, [], ◌∷◌, length, length-set, set, get_or, map, ap, sym, subst, arith}
use Rattle.std.proofs.Math.Seq.{map-set_same}
use Rattle.std.proofs.lemmas.List.{length-map, take_all}
use Rattle.crossbeam_deque.specs.Handles.{view, IsPassOf, stealer_deque}
use Rattle.tj_ready.specs.Ends.{StepsOne}
use Rattle.tj_ready.specs.Orders.{left_there}
use Rattle.tj_ready.specs.Seats.{known_in}
use Rattle.tj_ready.proofs.Seats.{known_at, seat_set}
use Rattle.tj_ready.proofs.Steps.{steps_there, looked}
use Rattle.tj_ready.proofs.steals.steal_first.Goals as goal

pub steal_from-requires-clause-seated : goal.steal_from-requires-clause-seated
steal_from-requires-clause-seated g c =
    let deques = c.args.deques.now.items in
    let at = c.loop-at.at in
    let deque = c.index.result.now in
    let seat = c.index_mut.result.now in
    let inv = c.loop-at.invariant in
    let n = c.len-at-end.ensures in
    let t = c.loop-at-test.true in
    let size = inv.1 in
    let count = c.requires.count in
    let here : at < length c.loop-at.seats.items = omega arith in
    let in-deques : at < length deques = omega arith in
    subst (λ s. IsPassOf (stealer_deque deque) s) (sym c.index_mut.ensures.value)
    (subst (λ q. IsPassOf q (get_or c.loop-at.seats.items at seat))
    (known_at stealer_deque deques at deque (stealer_deque deque) in-deques c.index.ensures)
    (inv.3 at (stealer_deque deque) seat here))

pub returns-in-Some-clause-seated : goal.returns-in-Some-clause-seated
returns-in-Some-clause-seated g c =
    let deques = c.args.deques.now.items in
    let at = c.loop-at.at in
    let deque = c.index.result.now in
    let new = c.steal_from.new.seat in
    let inv = c.loop-at.invariant in
    let n = c.len-at-end.ensures in
    let t = c.loop-at-test.true in
    let size = inv.1 in
    let count = c.requires.count in
    let here : at < length c.loop-at.seats.items = omega arith in
    let in-deques : at < length deques = omega arith in
    seat_set (map stealer_deque deques) c.loop-at.seats.items at new here
    (λ e. subst (λ q. IsPassOf q new) (sym (known_at stealer_deque deques at deque e in-deques c.index.ensures))
    c.steal_from.ensures.seated) inv.3

pub returns-in-Some-clause-taken : goal.returns-in-Some-clause-taken
returns-in-Some-clause-taken g c =
    let takes = g.K.PoolRule.takes in
    let seats = c.loop-at.seats.items in
    let old = c.index_mut.result.now in
    let new = c.steal_from.new.seat in
    let t = c.in-Some.t in
    let here : c.loop-at.at < length seats = let l = c.loop-at.invariant.1 in let n = c.len-at-end.ensures in let at =
    c.loop-at-test.true in omega arith in
    let by = subst (λ v. takes v (t ∷ []) (view new)) (ap view c.index_mut.ensures.value) c.in-Some.ensures.taken in
    subst (λ vs. StepsOne takes vs t (known_in (set seats c.loop-at.at new))) c.loop-at.invariant.0
    (steps_there view takes seats c.loop-at.at new old t here by)

pub loop-at-preserved : goal.loop-at-preserved
loop-at-preserved g c =
    let there = left_there g.K.PoolRule.newest g.K.PoolRule.empty g.K.PoolRule.few in
    let deques = c.args.deques.now.items in
    let seats = c.loop-at.seats.items in
    let at = c.loop-at.at in
    let deque = c.index.result.now in
    let old = c.index_mut.result.now in
    let new = c.steal_from.new.seat in
    let inv = c.loop-at.invariant in
    let found = c.in_default.ensures.taken in
    let value = ap view c.index_mut.ensures.value in
    let n = c.len-at-end.ensures in
    let t = c.loop-at-test.true in
    let size = inv.1 in
    let count = c.requires.count in
    let here : at < length seats = omega arith in
    let in-deques : at < length deques = omega arith in (
      map-set_same view seats at new old (found.0 ∙ value) ∙ inv.0,
      length-set seats at new ∙ inv.1,
      looked view there seats _ at old here inv.0 (subst there value found.1) inv.2,
      seat_set (map stealer_deque deques) seats at new here
          (λ e. subst (λ q. IsPassOf q new) (sym (known_at stealer_deque deques at deque e in-deques c.index.ensures))
          c.steal_from.ensures.seated) inv.3,
    )

pub returns-clause-taken : goal.returns-clause-taken
returns-clause-taken g c =
    let seats = c.args.seats.now.items in
    let inv = c.loop-at.invariant in
    let all : length (known_in seats) < c.loop-at.at + 1 = let l = length-map seats view in let n =
    c.len-at-end.ensures in let at = c.loop-at-test.false in omega arith in (
      inv.0,
      subst (All (left_there g.K.PoolRule.newest g.K.PoolRule.empty g.K.PoolRule.few))
          (take_all c.loop-at.at (known_in seats) (omega arith)) inv.2,
    )
