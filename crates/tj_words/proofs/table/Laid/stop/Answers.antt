use Rattle.tj_words.proofs.CallTerms.{Store, arith, refl, told_step}
use Rattle.tj_words.proofs.Waiters.LiveCalls.{stop_allowed}
use Rattle.tj_words.specs.CallLaws.StepCalls as call
use Rattle.tj_words.proofs.table.Laid.stop.Goals as goal

pub store-requires : goal.store-requires
store-requires g c = let a = c.args in (
  c.requires.table,
  omega (arith, a.self.now.words, a.self.now.some),
  stop_allowed _ _ _ _ _ a.w c.requires.some c.requires.known c.requires.refused,
  told_step _ (call.stops) Store a.w 0 refl refl (omega (arith, a.self.now.key_cells, a.self.now.some))
      (c.requires.some, c.requires.known, c.requires.refused)
      (λ s r at m t. (refl, t)),
)
