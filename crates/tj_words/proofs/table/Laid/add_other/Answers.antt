use Rattle.tj_words.proofs.CallTerms.{Add, MayRaise, arith, refl, subst, sym, told_step, up_is}
use Rattle.tj_words.proofs.Waiters.OthersSteps.{raise_allowed}
use Rattle.tj_words.proofs.SeatLoads.WalkLoads.{others_small}
use Rattle.tj_words.specs.CallLaws.StepCalls as call
use Rattle.tj_words.proofs.table.Laid.add_other.Goals as goal

pub fetch_add-requires : goal.fetch_add-requires
fetch_add-requires g c = let a = c.args in (
  c.requires.table,
  omega (arith, a.self.now.words, a.self.now.some),
  raise_allowed _ _ c.event_keeps_facts.ensures c.others_are_few.ensures _ _ _ a.t.0 g.M.Naming.task c.requires.named
      c.requires.runs,
  told_step _ (call.raises_others g.M.Naming.task) Add 1 0 refl refl
      (omega (arith, a.self.now.key_cells, a.self.now.some))
      (subst (λ k. MayRaise k a.seat.now.me.0) (sym c.requires.named) c.requires.runs)
      (λ s r at m t. (up_is (others_small _ _ c.others_are_few.ensures s r), t)),
)
