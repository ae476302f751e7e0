use Rattle.std.proofs.Common.{◌≡◌, ◌∙◌, ◌++◌, [], ◌∷◌, All, length, map, Some, append_assoc, ap, refl, sym, subst, arith}
use Rattle.std.proofs.lemmas.List.{length-append, length-map, map-append}
use Rattle.std.proofs.lemmas.List.Elements.{All-pop}
use Rattle.crossbeam_deque.specs.Handles.{worker_deque, stealer_deque, stealer_flavor}
use Rattle.tj_ready.specs.Orders.{flavor_of}
use Rattle.tj_ready.specs.Seats.{AreSeats, IsHand, IsNewOwner}
use Rattle.tj_ready.specs.Stealing.{IsNewEnd, deque_of, reach_of}
use Rattle.tj_ready.proofs.Seats.{more_all}
use Rattle.tj_ready.proofs.Steps.{one_of}
use Rattle.tj_ready.proofs.stealing.RuledStealPool.ends.Goals as goal

pub invariant_of-push-clause-flavor : goal.invariant_of-push-clause-flavor
invariant_of-push-clause-flavor g c =
    let is = c.loop-own.invariant.5 ∙ ap (λ more. c.loop-own.yielded ++ more) c.in-Some.ensures.steps.0 in
    let new = one_of (IsNewOwner (flavor_of g.K.PoolRule.newest) (g.K.PoolRule.own c.args.cells)) c.loop-own.yielded
    c.next.new.self.rest.items c.in-Some.own
    (subst (All (IsNewOwner (flavor_of g.K.PoolRule.newest) (g.K.PoolRule.own c.args.cells))) is c.requires.new) in
    new.order

pub invariant_of-push-clause-own_cells : goal.invariant_of-push-clause-own_cells
invariant_of-push-clause-own_cells g c =
    let is = c.loop-own.invariant.5 ∙ ap (λ more. c.loop-own.yielded ++ more) c.in-Some.ensures.steps.0 in
    let new = one_of (IsNewOwner (flavor_of g.K.PoolRule.newest) (g.K.PoolRule.own c.args.cells)) c.loop-own.yielded
    c.next.new.self.rest.items c.in-Some.own
    (subst (All (IsNewOwner (flavor_of g.K.PoolRule.newest) (g.K.PoolRule.own c.args.cells))) is c.requires.new) in
    ap g.K.PoolRule.limit new.start ∙ g.met.K.PoolRule.kept.own_limit c.args.cells

pub invariant_of-push-clause-other_cells : goal.invariant_of-push-clause-other_cells
invariant_of-push-clause-other_cells g c =
    let hand = (All-pop
    (λ seats. IsHand (map worker_deque c.args.owners.items) (g.K.PoolRule.other c.args.cells) seats.items)
    _ _ (Some c.in-Some-pop.seats) c.in-Some-pop.ensures.items c.loop-own.invariant.1).1 in
    λ k d less. ap g.K.PoolRule.limit (hand.start k d less) ∙ g.met.K.PoolRule.kept.other_limit c.args.cells

pub invariant_of-push-clause-flavors : goal.invariant_of-push-clause-flavors
invariant_of-push-clause-flavors g c =
    subst (λ ds. All (λ deque. stealer_flavor deque ≡ flavor_of g.K.PoolRule.newest) ds.items)
    (sym c.in_ok-try_clone.ensures) c.requires.flavors

pub invariant_of-push-clause-count : goal.invariant_of-push-clause-count
invariant_of-push-clause-count g c =
    let hand = (All-pop
    (λ seats. IsHand (map worker_deque c.args.owners.items) (g.K.PoolRule.other c.args.cells) seats.items)
    _ _ (Some c.in-Some-pop.seats) c.in-Some-pop.ensures.items c.loop-own.invariant.1).1 in
    hand.count ∙ sym (ap length c.requires.deques) ∙ length-map c.args.deques.now.value.items stealer_deque
    ∙ ap (λ ds. length ds.items) (sym c.in_ok-try_clone.ensures)

pub invariant_of-push-clause-seated : goal.invariant_of-push-clause-seated
invariant_of-push-clause-seated g c =
    let hand = (All-pop
    (λ seats. IsHand (map worker_deque c.args.owners.items) (g.K.PoolRule.other c.args.cells) seats.items)
    _ _ (Some c.in-Some-pop.seats) c.in-Some-pop.ensures.items c.loop-own.invariant.1).1 in
    subst (λ ds. AreSeats ds c.in-Some-pop.seats.items)
    (sym c.requires.deques ∙ ap (λ ds. map stealer_deque ds.items) (sym c.in_ok-try_clone.ensures)) hand.each

pub loop-own-preserved : goal.loop-own-preserved
loop-own-preserved g c =
    let inv = c.loop-own.invariant in
    let yielded = c.loop-own.yielded in
    let own = c.in-Some.own in
    let rest = c.next.new.self.rest.items in
    let all = map worker_deque c.args.owners.items in
    let is = inv.5 ∙ ap (λ more. yielded ++ more) c.in-Some.ensures.steps.0 in
    let new = one_of (IsNewOwner (flavor_of g.K.PoolRule.newest) (g.K.PoolRule.own c.args.cells)) yielded rest own
    (subst (All (IsNewOwner (flavor_of g.K.PoolRule.newest) (g.K.PoolRule.own c.args.cells))) is c.requires.new) in
    let hands = All-pop (λ seats. IsHand all (g.K.PoolRule.other c.args.cells) seats.items) _ _
    (Some c.in-Some-pop.seats) c.in-Some-pop.ensures.items inv.1 in
    let pushed = c.in_ok-push.ensures.items in
    let counted = ap length c.in-Some-pop.ensures.items
    ∙ length-append c.pop.new.self.items (c.in-Some-pop.seats ∷ []) in
    let more = length-append yielded (own ∷ []) in
    let size = inv.0 in (
      omega arith,
      hands.0,
      more_all (IsNewEnd c.args.cells) _ _ _ pushed
          (record { size = refl; own = new.start; spare = c.new.ensures.items; others = hands.1.start }) inv.2,
      ap (map deque_of) pushed ∙ map-append deque_of c.loop-own.ends.items _
          ∙ ap (λ ds. ds ++ worker_deque own ∷ []) inv.3 ∙ sym (map-append worker_deque yielded (own ∷ [])),
      more_all (λ end. reach_of end ≡ all) _ _ _ pushed
          (ap (λ ds. map stealer_deque ds.items) c.in_ok-try_clone.ensures ∙ c.requires.deques) inv.4,
      is ∙ sym (append_assoc yielded (own ∷ []) rest),
    )
