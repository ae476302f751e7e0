use Rattle.tj_park.proofs.Prelude.{refl, ◌∙◌}
use Rattle.tj_park.proofs.WakeSteps.{may_up, may_swap, counted, slots_woke, steps_of_first, wakes_first}
use Rattle.tj_park.proofs.wakes.wake_first.Goals as goal

pub live_up-requires-clause-may : goal.live_up-requires-clause-may
live_up-requires-clause-may g c κs within =
    let a = c.next_of-next.ensures in
    let b = c.see_phase-was.ensures in
    may_up c.requires.may.wakes c.requires.may.first a.view a.seat.2 a.first b.view b.seat.2 (b.first refl)

pub swap_phase-requires-clause-may : goal.swap_phase-requires-clause-may
swap_phase-requires-clause-may g c κs within =
    let a = c.next_of-next.ensures in
    let b = c.see_phase-was.ensures in
    may_swap c.requires.may.wakes c.requires.may.first a.view a.seat.2 a.first b.view b.seat.2 (b.first refl)
    c.live_up.ensures.me

pub lower-requires-clause-cleared : goal.lower-requires-clause-cleared
lower-requires-clause-cleared g c κs within =
    let a = c.next_of-next.ensures in
    let b = c.see_phase-was.ensures in
    counted c.requires.may.wakes c.requires.may.first a.view a.seat.2 a.first b.view b.seat.2 (b.first refl)
    c.live_up.ensures.me _ _ _ c.swap_phase.ensures.swapped c.swap_phase.ensures.found

pub returns-clause-seat : goal.returns-clause-seat
returns-clause-seat g c =
    let a = c.next_of-next.ensures in
    let b = c.see_phase-was.ensures in
    let up = c.live_up.ensures in
    let e = c.swap_phase.ensures in
    let f = c.lower.ensures.seat in (
      f.0 ∙ (e.table ∙ (up.table ∙ (b.seat.0 ∙ a.seat.0))),
      f.1 ∙ (e.seat ∙ (up.id ∙ (b.seat.1 ∙ a.seat.1))),
      f.2 ∙ slots_woke c.requires.may.wakes c.requires.may.first a.view a.seat.2 a.first b.view b.seat.2
          (b.first refl) up.me _ _ _ e.swapped e.found,
    )

pub returns-clause-woke : goal.returns-clause-woke
returns-clause-woke g c = λ left rests.
    let a = c.next_of-next.ensures in
    let b = c.see_phase-was.ensures in
    wakes_first c.requires.may.wakes rests a.view a.seat.2 a.first b.view b.seat.2 (b.first refl)
    c.live_up.ensures.me _ _ _ c.swap_phase.ensures.swapped c.swap_phase.ensures.found c.lower.ensures.view

pub returns-clause-log : goal.returns-clause-log
returns-clause-log g c = λ left rests.
    let a = c.next_of-next in
    let b = c.see_phase-was in
    let up = c.live_up in
    let e = c.swap_phase in
    steps_of_first c.requires.may.wakes rests a.ensures.view a.ensures.seat.2 a.ensures.first b.ensures.view
    b.ensures.seat.2 (b.ensures.first refl) up.ensures.log.0 e.result up.new.seat.me e.new.seat.me c.args.seat.now
    a.new.seat b.new.seat up.new.seat e.new.seat c.lower.new.seat a.ensures.log b.ensures.log up.ensures.log.1
    e.ensures.log_swapped e.ensures.found c.lower.ensures.log
