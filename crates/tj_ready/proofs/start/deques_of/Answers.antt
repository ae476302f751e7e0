use Rattle.std.proofs.Common.{◌≡◌, ◌<◌, ◌∙◌, length, map, ap, sym, subst, arith}
use Rattle.std.proofs.lemmas.List.{length-map, take_all}
use Rattle.crossbeam_deque.specs.Handles.{worker_deque, stealer_deque, stealer_flavor}
use Rattle.tj_ready.specs.Orders.{flavor_of}
use Rattle.tj_ready.specs.Seats.{IsNewOwner}
use Rattle.tj_ready.proofs.Seats.{known_next, more_all}
use Rattle.tj_ready.proofs.start.deques_of.Goals as goal

pub loop-at-preserved : goal.loop-at-preserved
loop-at-preserved g c =
    let owners = c.args.owners.now.items in
    let own = c.index.result.now in
    let deques = c.loop-at.deques.items in
    let deque = c.in_ok-stealer.field-0 in
    let inv = c.loop-at.invariant in
    let n = c.len-at-end.ensures in
    let t = c.loop-at-test.true in
    let here : c.loop-at.at < length owners = omega arith in
    let made = c.in_ok-stealer.ensures in
    let new : IsNewOwner (flavor_of g.K.PoolRule.newest) (g.K.PoolRule.own c.args.cells) own =
    subst (IsNewOwner (flavor_of g.K.PoolRule.newest) (g.K.PoolRule.own c.args.cells)) (sym c.index.ensures)
    (c.requires c.loop-at.at own here) in (
      ap (map stealer_deque) c.in_ok-push.ensures.items
          ∙ known_next stealer_deque worker_deque deques owners c.loop-at.at deque own here c.index.ensures made.0
          inv.0,
      more_all (λ d. stealer_flavor d ≡ flavor_of g.K.PoolRule.newest) _ _ _ c.in_ok-push.ensures.items
          (made.1 ∙ new.order) inv.1,
    )

pub returns : goal.returns
returns g c =
    let owners = c.args.owners.now.items in
    let n = c.len-at-end.ensures in
    let t = c.loop-at-test.false in
    let size = length-map owners worker_deque in
    let inv = c.loop-at.invariant in
    (inv.0 ∙ take_all c.loop-at.at (map worker_deque owners) (omega arith), inv.1)
