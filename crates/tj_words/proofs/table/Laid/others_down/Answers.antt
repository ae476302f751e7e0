use Rattle.tj_words.proofs.CallTerms.{Sub, arith, down_is, refl, told_step}
use Rattle.tj_words.proofs.Waiters.OthersSteps.{lower_allowed, lower_stores}
use Rattle.tj_words.proofs.SeatLoads.WalkLoads.{others_small}
use Rattle.tj_words.specs.CallLaws.StepCalls as call
use Rattle.tj_words.proofs.table.Laid.others_down.Goals as goal

pub fetch_sub-requires : goal.fetch_sub-requires
fetch_sub-requires g c = let a = c.args in (
  c.requires.table,
  omega (arith, a.self.now.words, a.self.now.some),
  lower_allowed _ _ c.event_keeps_facts.ensures c.others_are_few.ensures _ _ _ c.requires.cleared,
  told_step _ (call.lowers_others) Sub 1 0 refl refl (omega (arith, a.self.now.key_cells, a.self.now.some))
      c.requires.cleared
      (λ s r at m t. (
        down_is (others_small _ _ c.others_are_few.ensures s r) (lower_stores _ _ c.event_keeps_facts.ensures
            c.others_are_few.ensures s r _ _ at c.requires.cleared).0,
        t,
      )),
)

pub returns-clause-log : goal.returns-clause-log
returns-clause-log g c = (c.fetch_sub.result, (c.fetch_sub.ensures.3, c.fetch_sub.ensures.4))
