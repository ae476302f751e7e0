use Rattle.tj_words.proofs.CallTerms.{IsWalking, Load, arith, refl, subst, sym, told_step}
use Rattle.tj_words.proofs.SeatLoads.WalkLoads.{others_read_allowed}
use Rattle.tj_events.specs.Events.{MayReadOthers}
use Rattle.tj_words.specs.CallLaws.StepCalls as call
use Rattle.tj_words.proofs.table.Laid.walker_others.Goals as goal

pub load-requires : goal.load-requires
load-requires g c = let a = c.args in (
  c.requires.table,
  omega (arith, a.self.now.words, a.self.now.some),
  others_read_allowed _ _ c.event_keeps_facts.ensures _ _ _ c.others_are_few.ensures a.t.0 g.M.Naming.task
      c.requires.named c.requires.walks,
  told_step _ (call.sees_others_by g.M.Naming.task) Load 0 0 refl refl
      (omega (arith, a.self.now.key_cells, a.self.now.some))
      (subst (λ k. IsWalking k (λ p way w. MayReadOthers way w) a.seat.now.me.0) (sym c.requires.named)
      c.requires.walks)
      (λ s r at m t. (refl, t)),
)
