use Rattle.tj_park.proofs.Prelude.{MayRaiseLive, MayRelease, SeatMe, ap, live_raised, released, rest, subst, sym, ◌∙◌}
use Rattle.std.proofs.Common.{◌∷◌}
use Rattle.tj_words.specs.CallLaws.StepCalls as call
use Rattle.tj_words.specs.CallLaws.StepLogs.{entry_of}
use Rattle.tj_park.specs.ChildViews.{child_home}
use Rattle.tj_park.proofs.LeftTasks.{raise_child, ready_child, child_released}
use Rattle.tj_park.proofs.children.release.Goals as goal

pub live_up-requires-clause-may : goal.live_up-requires-clause-may
live_up-requires-clause-may g c κs within = subst (MayRaiseLive _) (sym c.slot_swap.ensures.me)
    (raise_child _ c.args.t.0 c.args.rec c.args.seat.now.me.0 (rest c.args.seat.now.me.1) c.requires.may)

pub put_phase-requires-clause-may : goal.put_phase-requires-clause-may
put_phase-requires-clause-may g c κs within =
    subst (λ (z : SeatMe _). MayRelease c.args.t.0 z.0)
    (sym (c.live_up.ensures.me ∙ ap live_raised c.slot_swap.ensures.me))
    (ready_child _ c.args.t.0 c.args.rec c.args.seat.now.me.0 (rest c.args.seat.now.me.1) c.requires.may)

pub returns-clause-me : goal.returns-clause-me
returns-clause-me g c =
    c.put_phase.ensures.puts
    ∙ (ap (λ (z : SeatMe _). (released c.args.t.0 z.0, z.1))
    (c.live_up.ensures.me ∙ ap live_raised c.slot_swap.ensures.me)
    ∙ ap (λ v. (v, rest c.args.seat.now.me.1))
    (child_released _ c.args.t.0 c.args.rec c.args.seat.now.me.0 (rest c.args.seat.now.me.1) c.requires.may))

pub returns-clause-log : goal.returns-clause-log
returns-clause-log g c = let up = c.live_up.ensures.log in let put = c.put_phase.ensures.log in let n = up.0 in (
  n,
  put.0 ∙ ap (λ l. entry_of (call.puts_phase c.args.t.0) 1 0 1 ∷ l)
      (up.1.0 ∙ ap (λ l. entry_of call.raises_live 1 0 n ∷ l) c.slot_swap.ensures.log.0),
  put.1 ∙ (up.1.1 ∙ c.slot_swap.ensures.log.1),
)

pub returns-clause-before : goal.returns-clause-before
returns-clause-before g c = let laid = c.slot_swap.ensures in let up = c.live_up.ensures in
    let put = c.put_phase.ensures.before in let v = c.args.seat.now.me.0 in (
      put.0
          ∙ (ap (λ (z : SeatMe _). z.0 ∷ c.live_up.new.seat.befores) (up.me ∙ ap live_raised laid.me)
          ∙ ap (λ l. child_home c.args.t.0 c.args.rec v ∷ l) (up.before.0
          ∙ (ap (λ (z : SeatMe _). z.0 ∷ c.slot_swap.new.seat.befores) laid.me ∙ ap (λ l. v ∷ l) laid.before.0))),
      put.1 ∙ (up.before.1 ∙ laid.before.1),
    )
