use Rattle.tj_park.proofs.Prelude.{Some, refl, ◌∙◌}
use Rattle.tj_park.proofs.TakenTasks.{claimed, slot_in_front}
use Rattle.tj_park.proofs.claims.claim.Goals as goal

pub slot_swap-requires-clause-slot : goal.slot_swap-requires-clause-slot
slot_swap-requires-clause-slot g c κs within =
    let k = c.in-Ok.ensures.swapped.claims refl in
    slot_in_front c.args.t.0 (Some k.0) _ c.args.seat.now.me.1 c.swap_phase.new.seat.me k.2

pub returns-in-Ok-clause-some : goal.returns-in-Ok-clause-some
returns-in-Ok-clause-some g c = (claimed _ c.args.t.0 c.args.seat.now.me c.swap_phase.new.seat.me
    c.slot_swap.new.seat.me c.slot_swap.result (c.in-Ok.ensures.swapped.claims refl) c.slot_swap.ensures.found
    c.slot_swap.ensures.me).0

pub returns-in-Ok-clause-log_some : goal.returns-in-Ok-clause-log_some
returns-in-Ok-clause-log_some g c = λ _. let stays = c.slot_swap.ensures.log in let log = c.in-Ok.ensures.log_swapped in
    (stays.0 ∙ log.0, stays.1 ∙ log.1)

pub returns-in-Ok-clause-before : goal.returns-in-Ok-clause-before
returns-in-Ok-clause-before g c = let stays = c.slot_swap.ensures.before in let swap = c.swap_phase.ensures.before in
    (stays.0 ∙ swap.0, stays.1 ∙ swap.1)
