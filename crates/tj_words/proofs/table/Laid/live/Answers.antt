use Rattle.tj_words.proofs.CallTerms.{Load, arith, refl, told_step}
use Rattle.tj_words.proofs.SeatLoads.LoadSteps.{live_allowed}
use Rattle.tj_words.specs.CallLaws.StepCalls as call
use Rattle.tj_words.proofs.table.Laid.live.Goals as goal

pub load-requires : goal.load-requires
load-requires g c = let a = c.args in (
  c.requires.table,
  omega (arith, a.self.now.words, a.self.now.some),
  live_allowed _ _ _ _ _,
  told_step _ (call.sees_live) Load 0 0 refl refl (omega (arith, a.self.now.key_cells, a.self.now.some)) tt
      (λ s r at m t. (refl, t)),
)
