use Rattle.tj_park.proofs.Prelude.{None, ap, inr, subst, refl, ◌∙◌, ◌∷◌}
use Rattle.tj_cells.specs.CallLogs.{phase_entry}
use Rattle.tj_words.specs.LawParts.Chains.{parked_phase}
use Rattle.tj_park.specs.ParkLogs.{MakesJoin}
use Rattle.tj_park.proofs.Returns.{never_fails, not_ready}
use Rattle.tj_park.proofs.Returns.{back_cleared, back_slot, back_slots, back_some, goes_back, takes_back}
use Rattle.tj_park.proofs.ParkedViews.{parked_may, parked_push, parked_lower, parked_left, parked_back_may, parked_back}
use Rattle.tj_park.proofs.ParkedViews.{back_home, left_home, parked_slots}
use Rattle.tj_park.proofs.ReturnedRecords.{returned, went_home}
use Rattle.tj_park.proofs.parking.park.Goals as goal

pub put_phase-requires-clause-may : goal.put_phase-requires-clause-may
put_phase-requires-clause-may g c κs within =
    parked_may c.args.laid.now.cells c.requires.may c.slot_swap.ensures.me

pub join_chain-requires-clause-push : goal.join_chain-requires-clause-push
join_chain-requires-clause-push g c κs within = (
  c.args.way,
  parked_push c.args.laid.now.cells c.requires.may c.put_phase.new.seat.me c.slot_swap.ensures.me
      c.put_phase.ensures.puts,
)

pub live_down-requires-clause-may : goal.live_down-requires-clause-may
live_down-requires-clause-may g c κs within =
    let join = c.join_chain.ensures in
    parked_lower c.args.laid.now.cells c.requires.may c.join_chain.new.seat.me c.slot_swap.ensures.me
    c.put_phase.ensures.puts join.seat.2 join.looks join.steps join.pushes c.join_chain.result join.added join.closed
    c.if-join_chain.true c.requires.others

pub returns-then-join_chain-clause-left : goal.returns-then-join_chain-clause-left
returns-then-join_chain-clause-left g c =
    let join = c.join_chain.ensures in
    (parked_left c.args.laid.now.cells c.requires.may c.join_chain.new.seat.me c.slot_swap.ensures.me
    c.put_phase.ensures.puts join.seat.2 join.looks join.steps join.pushes c.join_chain.result join.added join.closed
    c.if-join_chain.true c.requires.others c.live_down.ensures.me).0

pub returns-then-join_chain-clause-left_slot : goal.returns-then-join_chain-clause-left_slot
returns-then-join_chain-clause-left_slot g c =
    let join = c.join_chain.ensures in
    (parked_left c.args.laid.now.cells c.requires.may c.join_chain.new.seat.me c.slot_swap.ensures.me
    c.put_phase.ensures.puts join.seat.2 join.looks join.steps join.pushes c.join_chain.result join.added join.closed
    c.if-join_chain.true c.requires.others c.live_down.ensures.me).1

pub swap_phase-requires-clause-may : goal.swap_phase-requires-clause-may
swap_phase-requires-clause-may g c κs within =
    let join = c.join_chain.ensures in
    let may = parked_back_may c.args.laid.now.cells c.requires.may c.join_chain.new.seat.me c.slot_swap.ensures.me
    c.put_phase.ensures.puts join.seat.2 join.looks join.steps join.pushes c.join_chain.result join.added join.closed
    c.if-join_chain.false in
    inr (c.args.q.0, c.args.way, refl, inr (refl, may))

pub slot_swap-requires-2-clause-slot : goal.slot_swap-requires-2-clause-slot
slot_swap-requires-2-clause-slot g c κs within =
    let b = goes_back c.args.way c.swap_phase.result c.swap_phase.ensures.swapped c.swap_phase.ensures.found in
    back_slot c.args.way b

pub unwrap-rec-requires : goal.unwrap-rec-requires
unwrap-rec-requires g c =
    let b = goes_back c.args.way c.swap_phase.result c.swap_phase.ensures.swapped c.swap_phase.ensures.found in
    back_some c.args.way b c.slot_swap-2.ensures.found c.slot_swap-2.ensures.me

pub lower-requires-clause-cleared : goal.lower-requires-clause-cleared
lower-requires-clause-cleared g c κs within =
    let b = goes_back c.args.way c.swap_phase.result c.swap_phase.ensures.swapped c.swap_phase.ensures.found in
    back_cleared c.args.way b c.slot_swap-2.ensures.found c.slot_swap-2.ensures.me

pub returns-clause-back : goal.returns-clause-back
returns-clause-back g c =
    let join = c.join_chain.ensures in
    let b = goes_back c.args.way c.swap_phase.result c.swap_phase.ensures.swapped c.swap_phase.ensures.found in
    parked_back c.args.laid.now.cells c.requires.may c.join_chain.new.seat.me c.slot_swap.ensures.me
    c.put_phase.ensures.puts join.seat.2 join.looks join.steps join.pushes c.join_chain.result join.added join.closed
    c.if-join_chain.false
    (takes_back c.args.way b c.slot_swap-2.ensures.found c.slot_swap-2.ensures.me c.unwrap-rec.ensures
    c.lower.ensures.view c.lower.ensures.steps)

pub returns-then-join_chain-clause-home : goal.returns-then-join_chain-clause-home
returns-then-join_chain-clause-home g c =
    let join = c.join_chain.ensures in
    left_home c.args.laid.now.cells c.requires.may c.join_chain.new.seat.me c.slot_swap.ensures.me
    c.put_phase.ensures.puts join.seat.2 join.looks join.steps join.pushes c.join_chain.result join.added join.closed
    c.if-join_chain.true c.requires.others c.live_down.ensures.me

pub returns-clause-home : goal.returns-clause-home
returns-clause-home g c =
    let join = c.join_chain.ensures in
    let b = goes_back c.args.way c.swap_phase.result c.swap_phase.ensures.swapped c.swap_phase.ensures.found in
    back_home c.args.laid.now.cells c.requires.may c.join_chain.new.seat.me c.slot_swap.ensures.me
    c.put_phase.ensures.puts join.seat.2 join.looks join.steps join.pushes c.join_chain.result join.added join.closed
    c.if-join_chain.false
    (takes_back c.args.way b c.slot_swap-2.ensures.found c.slot_swap-2.ensures.me c.unwrap-rec.ensures
    c.lower.ensures.view c.lower.ensures.steps)

pub returns-clause-same : goal.returns-clause-same
returns-clause-same g c =
    let swaps = never_fails c.swap_phase.result _ _ (λ p h. not_ready c.args.q.0 c.args.way h.0)
    c.swap_phase.ensures.swapped c.swap_phase.ensures.found in
    returned c.args.way swaps c.slot_swap-2.ensures.found c.unwrap-rec.ensures _
    (went_home c.slot_swap.ensures.me c.put_phase.ensures.puts c.join_chain.ensures.looks.put_home)
    c.requires.may.leaves.has.cell

pub returns-clause-back_slot : goal.returns-clause-back_slot
returns-clause-back_slot g c =
    let join = c.join_chain.ensures in
    let b = goes_back c.args.way c.swap_phase.result c.swap_phase.ensures.swapped c.swap_phase.ensures.found in
    c.lower.ensures.seat.2
    ∙ (back_slots c.args.way b c.slot_swap-2.ensures.found c.slot_swap-2.ensures.me
    ∙ ap (λ l. (c.args.t.0, None) ∷ l)
    (parked_slots c.args.laid.now.cells c.requires.may c.join_chain.new.seat.me c.slot_swap.ensures.me
    c.put_phase.ensures.puts join.seat.2 join.looks join.steps join.pushes c.join_chain.result join.added join.closed))

pub returns-then-join_chain-clause-left_log : goal.returns-then-join_chain-clause-left_log
returns-then-join_chain-clause-left_log g c = let put = c.put_phase.ensures.log in (
  c.put_phase.new.seat,
  c.join_chain.new.seat,
  c.live_down.ensures.log.0,
  (
    put.0 ∙ ap (λ l. phase_entry c.args.t.0 (parked_phase c.args.q.0 c.args.way) ∷ l) c.slot_swap.ensures.log.0,
    put.1 ∙ c.slot_swap.ensures.log.1,
  ),
  subst (λ b. MakesJoin c.args.t.0 c.args.q.0 b c.put_phase.new.seat c.join_chain.new.seat) c.if-join_chain.true
      c.join_chain.ensures.log,
  c.live_down.ensures.log.1,
)

pub returns-clause-back_log : goal.returns-clause-back_log
returns-clause-back_log g c =
    let put = c.put_phase.ensures.log in
    let out = c.slot_swap-2.ensures.log in
    let low = c.lower.ensures.log in
    let swapped = never_fails c.swap_phase.result _ _ (λ p h. not_ready c.args.q.0 c.args.way h.0)
    c.swap_phase.ensures.log_swapped c.swap_phase.ensures.found in (
      c.put_phase.new.seat,
      c.join_chain.new.seat,
      c.slot_swap-2.new.seat,
      low.0,
      (
        put.0 ∙ ap (λ l. phase_entry c.args.t.0 (parked_phase c.args.q.0 c.args.way) ∷ l) c.slot_swap.ensures.log.0,
        put.1 ∙ c.slot_swap.ensures.log.1,
      ),
      subst (λ b. MakesJoin c.args.t.0 c.args.q.0 b c.put_phase.new.seat c.join_chain.new.seat)
          c.if-join_chain.false c.join_chain.ensures.log,
      (out.0 ∙ swapped.0, out.1 ∙ swapped.1),
      low.1,
    )
