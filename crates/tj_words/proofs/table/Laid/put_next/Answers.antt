use Rattle.tj_words.proofs.CallTerms.{Store, arith, cell_at, is_logged, its_cell, refl, told_step, word}
use Rattle.tj_words.proofs.Waiters.HeadSteps.{next_allowed}
use Rattle.tj_words.specs.Calls.ChainSteps.{next_store}
use Rattle.tj_words.specs.CallLaws.StepCalls as call
use Rattle.tj_words.proofs.table.Laid.put_next.Goals as goal

pub store-requires : goal.store-requires
store-requires g c = let a = c.args in let e = a.self.now.key_cells in (
  c.requires.table,
  omega (arith, a.self.now.words, a.self.now.some, c.requires.cell, c.next_at.ensures.word),
  next_allowed _ _ _ _ _ a.t.0 c.next_at.result c.word.result (cell_at c.next_at.result)
      (omega (arith, e, c.requires.cell)) c.next_at.ensures.word c.next_at.ensures.cell
      (omega (arith, e, c.requires.small, c.word.ensures.word)) c.requires.push,
  told_step _ (call.puts_next a.t.0) Store c.word.result 0 refl c.next_at.ensures.word
      (omega (arith, e, a.self.now.some, c.requires.cell, c.next_at.ensures.word))
      (omega (arith, e, c.requires.small, c.word.ensures.word), c.requires.push)
      (λ s r at m t. (
        refl,
        its_cell (λ cells. next_store) c.word.result 0 {n = word s.words c.next_at.result} a.self.now.slots
            c.next_at.ensures.cell t,
      )),
)

pub returns-clause-log : goal.returns-clause-log
returns-clause-log g c =
    is_logged c.next_at.ensures.word c.word.ensures.word refl c.word.ensures.word c.store.ensures.3 c.store.ensures.4
