use Rattle.std.proofs.Common.{◌≡◌, ◌<◌, ◌∙◌, [], ◌∷◌, length, length-set, map, get_or, ap, sym, subst, arith}
use Rattle.std.proofs.Math.Seq.{map-set_same}
use Rattle.std.proofs.lemmas.List.{length-append, length-map}
use Rattle.std.proofs.lemmas.List.Elements.{All-set}
use Rattle.crossbeam_deque.specs.Handles.{view, IsPassOf, worker_deque}
use Rattle.tj_ready.specs.Orders.{flavor_of}
use Rattle.tj_ready.specs.Seats.{AreSeats, IsNewOwner}
use Rattle.tj_ready.proofs.Seats.{known_at, seat_more}
use Rattle.tj_ready.proofs.Steps.{one_more}
use Rattle.tj_ready.proofs.start.seats_of.Goals as goal

pub seat_in-requires-clause-new : goal.seat_in-requires-clause-new
seat_in-requires-clause-new g c =
    let n = c.len-at-end.ensures in
    let t = c.loop-at-test.true in
    let inv = c.loop-at.invariant in
    let size = inv.2 in
    let own = c.index_mut.result.now in
    subst (IsNewOwner (flavor_of g.K.PoolRule.newest) (g.K.PoolRule.own c.args.cells)) (sym c.index_mut.ensures.value)
    (inv.0 c.loop-at.at own (omega arith))

pub loop-at-preserved : goal.loop-at-preserved
loop-at-preserved g c =
    let n = c.len-at-end.ensures in
    let t = c.loop-at-test.true in
    let inv = c.loop-at.invariant in
    let size = inv.2 in
    let own = c.index_mut.result.now in
    let new = c.seat_in.new.own in
    let seat = c.seat_in.result in
    let owners = c.loop-at.owners.items in
    let seats = c.loop-at.seats.items in
    let at = c.loop-at.at in
    let deques = map worker_deque c.args.owners.now.items in
    let here : at < length owners = omega arith in
    let is = c.index_mut.ensures.value in
    let pushed = c.in_ok-push.ensures.items in
    let count = ap length pushed ∙ length-append seats (seat ∷ []) in
    let after = length-set owners at new in
    let pass = c.seat_in.ensures.seat in (
      All-set (IsNewOwner (flavor_of g.K.PoolRule.newest) (g.K.PoolRule.own c.args.cells)) owners at new
          c.seat_in.ensures.new inv.0,
      map-set_same worker_deque owners at new own (c.seat_in.ensures.deque ∙ ap worker_deque is) ∙ inv.1,
      after ∙ size,
      (let one = inv.3 in omega arith),
      (let one = inv.3 in omega arith),
      subst (AreSeats deques) (sym pushed) (seat_more deques seats seat
          (λ e. subst (λ k. IsPassOf (get_or deques k e) seat)
          (sym inv.3) (subst (λ ds. IsPassOf (get_or ds at e) seat) inv.1 (subst (λ q. IsPassOf q seat)
          (sym (known_at worker_deque owners at own e here is)) pass.0))) inv.5),
      one_more view (λ v. v ≡ g.K.PoolRule.other c.args.cells) _ _ _ pushed pass.1 inv.6,
    )

pub returns : goal.returns
returns g c =
    let n = c.len-at-end.ensures in
    let t = c.loop-at-test.false in
    let inv = c.loop-at.invariant in
    let size = inv.2 in
    let one = inv.3 in
    let less = inv.4 in
    let first = length-map c.args.owners.now.items worker_deque in
    (inv.0, inv.1, record { count = omega arith; each = inv.5; start = inv.6 })
