use Rattle.tj_words.proofs.CallTerms.{arith, cell_at, is_logged, its_cell, refl, sym, told_step, ◌∙◌}
use Rattle.tj_words.proofs.Waiters.HeadSteps.{shut_allowed}
use Rattle.tj_log.specs.declared.entry.Did.TheVariants.{Swap}
use Rattle.tj_words.specs.Calls.ChainSteps.{shut_swap}
use Rattle.tj_words.specs.CallLaws.StepCalls as call
use Rattle.tj_words.proofs.table.Laid.shut.Goals as goal

pub swap-found-requires : goal.swap-found-requires
swap-found-requires g c = let a = c.args in let e = a.self.now.key_cells in (
  c.requires.table,
  omega (arith, a.self.now.words, a.self.now.some, c.requires.cell, c.head_at.ensures.word),
  shut_allowed _ _ _ _ _ a.p.0 c.head_at.result c.word.result a.self.now.table.shared.table_id.slots
      (cell_at c.head_at.result) (omega (arith, e, c.requires.cell)) c.head_at.ensures.word (a.self.now.slots ∙ sym e)
      c.head_at.ensures.cell c.word.ensures.word c.requires.entry c.requires.rest c.requires.backed,
  told_step _ (call.shuts a.p.0) Swap c.word.result 0 refl c.head_at.ensures.word
      (omega (arith, e, a.self.now.some, c.requires.cell, c.head_at.ensures.word))
      (c.requires.entry, c.requires.rest, c.requires.backed)
      (λ s r at m t. (
        c.word.ensures.word,
        its_cell shut_swap c.word.result 0 (a.self.now.slots ∙ sym e) c.head_at.ensures.cell
            t,
      )),
)

pub returns-clause-log : goal.returns-clause-log
returns-clause-log g c = is_logged c.head_at.ensures.word c.word.ensures.word refl (sym c.of_word.ensures.back)
    c.swap-found.ensures.3 c.swap-found.ensures.4
