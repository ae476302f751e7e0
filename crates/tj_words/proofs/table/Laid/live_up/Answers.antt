use Rattle.tj_words.proofs.CallTerms.{Add, arith, refl, told_step, up_is}
use Rattle.tj_words.proofs.Waiters.LiveCalls.{up_allowed}
use Rattle.tj_words.proofs.SeatLoads.LoadSteps.{live_small}
use Rattle.tj_words.specs.CallLaws.StepCalls as call
use Rattle.tj_words.proofs.table.Laid.live_up.Goals as goal

pub fetch_add-requires : goal.fetch_add-requires
fetch_add-requires g c = let a = c.args in (
  c.requires.table,
  omega (arith, a.self.now.words, a.self.now.some),
  up_allowed _ _ _ _ _ c.requires.may,
  told_step _ (call.raises_live) Add 1 0 refl refl (omega (arith, a.self.now.key_cells, a.self.now.some))
      c.requires.may
      (λ s r at m t. (up_is (live_small _ _ s r), t)),
)

pub returns-clause-log : goal.returns-clause-log
returns-clause-log g c = (c.fetch_add.result, (c.fetch_add.ensures.3, c.fetch_add.ensures.4))
