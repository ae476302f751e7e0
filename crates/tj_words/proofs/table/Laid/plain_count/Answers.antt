use Rattle.tj_words.proofs.CallTerms.{IsCount, Load, arith, its_cell, plain_load, refl, sym, told_step, ◌∙◌}
use Rattle.tj_words.proofs.SeatLoads.LoadSteps.{count_allowed}
use Rattle.tj_words.specs.declared.view.Noted.TheVariants as note
use Rattle.tj_words.specs.CallLaws.StepCalls as call
use Rattle.tj_words.proofs.table.Laid.plain_count.Goals as goal

pub load-found-requires : goal.load-found-requires
load-found-requires g c = let a = c.args in let e = a.self.now.key_cells in
    let cells = a.self.now.table.shared.table_id.slots in (
      c.requires.table,
      omega (arith, a.self.now.words, a.self.now.some),
      count_allowed _ _ _ _ _ cells (a.self.now.slots ∙ sym e),
      told_step _ (call.counts) Load 0 0 refl refl (omega (arith, e, a.self.now.some)) tt
          (λ s r at m t. (
            refl,
            its_cell (λ cells c. plain_load note.Count (IsCount cells)) 0 0 (a.self.now.slots ∙ sym e) refl
                t,
          )),
    )

pub returns-clause-log : goal.returns-clause-log
returns-clause-log g c = (c.load-found.result, c.min.ensures, (c.load-found.ensures.3, c.load-found.ensures.4))
