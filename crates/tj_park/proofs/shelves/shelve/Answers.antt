use Rattle.tj_park.proofs.Prelude.{MayLowerLive, SeatMe, ap, rest, subst, sym, ◌∙◌}
use Rattle.std.proofs.Common.{◌∷◌}
use Rattle.tj_words.specs.CallLaws.StepCalls as call
use Rattle.tj_words.specs.CallLaws.StepLogs.{entry_of}
use Rattle.tj_park.proofs.LeftTasks.{lower_alarmed}
use Rattle.tj_park.proofs.shelves.shelve.Goals as goal

pub live_down-requires-clause-may : goal.live_down-requires-clause-may
live_down-requires-clause-may g c κs within = subst (MayLowerLive _) (sym c.slot_swap.ensures.me)
    (lower_alarmed _ c.args.t.0 c.args.rec c.args.seat.now.me.0 (rest c.args.seat.now.me.1) c.requires.may)

pub returns-clause-log : goal.returns-clause-log
returns-clause-log g c = let down = c.live_down.ensures.log in let laid = c.slot_swap.ensures.log in
    (down.0, (down.1.0 ∙ ap (λ l. entry_of call.lowers_live 1 0 down.0 ∷ l) laid.0, down.1.1 ∙ laid.1))

pub returns-clause-before : goal.returns-clause-before
returns-clause-before g c = let laid = c.slot_swap.ensures in let down = c.live_down.ensures.before in (
  down.0 ∙ (ap (λ (z : SeatMe _). z.0 ∷ c.slot_swap.new.seat.befores) laid.me
      ∙ ap (λ l. c.args.seat.now.me.0 ∷ l) laid.before.0),
  down.1 ∙ laid.before.1,
)
