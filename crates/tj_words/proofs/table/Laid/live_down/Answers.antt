use Rattle.tj_words.proofs.CallTerms.{Sub, arith, down_is, inl, refl, told_step}
use Rattle.tj_words.proofs.Waiters.LiveCalls.{down_allowed}
use Rattle.tj_words.proofs.SeatLoads.LoadSteps.{live_small}
use Rattle.tj_words.proofs.Waiters.LiveStores.{live_some}
use Rattle.tj_words.specs.CallLaws.StepCalls as call
use Rattle.tj_words.proofs.table.Laid.live_down.Goals as goal

pub fetch_sub-requires : goal.fetch_sub-requires
fetch_sub-requires g c = let a = c.args in (
  c.requires.table,
  omega (arith, a.self.now.words, a.self.now.some),
  down_allowed _ _ _ _ _ c.requires.may,
  told_step _ (call.lowers_live) Sub 1 0 refl refl (omega (arith, a.self.now.key_cells, a.self.now.some))
      c.requires.may
      (λ s r at m t. (down_is (live_small _ _ s r) (live_some _ _ s r _ _ at (inl c.requires.may.token)), t)),
)

pub returns-clause-log : goal.returns-clause-log
returns-clause-log g c = (c.fetch_sub.result, (c.fetch_sub.ensures.3, c.fetch_sub.ensures.4))
