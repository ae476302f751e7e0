use Rattle.tj_words.proofs.CallTerms.{arith, cell_at, is_logged, its_cell, phase_told, refl, subst, word}
use Rattle.tj_words.proofs.Phases.PhaseSteps.{wait_allowed}
use Rattle.tj_words.specs.Calls.WaitViews.{PutsIfWait, wait_store}
use Rattle.tj_words.proofs.table.Laid.put_wait.Goals as goal

pub store-requires : goal.store-requires
store-requires g c = let a = c.args in let e = a.self.now.key_cells in (
  c.requires.table,
  omega (arith, a.self.now.words, a.self.now.some, c.requires.task, c.phase_at.ensures.word),
  wait_allowed _ _ _ _ _ a.t.0 c.phase_at.result c.word.result (cell_at c.phase_at.result)
      (omega (arith, e, c.requires.task)) c.phase_at.ensures.word c.phase_at.ensures.cell
      c.event_keeps_facts.ensures a.p.0 a.way (omega (arith, e, c.requires.cell)) a.walk c.word.ensures.back
      c.word.ensures.word c.requires.may,
  phase_told _ a.t.0 c.word.result c.phase_at.ensures.word
      (omega (arith, e, a.self.now.some, c.requires.task, c.phase_at.ensures.word))
      (omega (arith, e, c.requires.task)) c.word.ensures.back c.requires.may
      (λ s r at m t. subst (λ q. PutsIfWait a.t.0 q a.seat.now.me m) c.word.ensures.back
      (its_cell (λ cells. wait_store) c.word.result 0 {n = word s.words c.phase_at.result} a.self.now.slots
      c.phase_at.ensures.cell t)),
)

pub returns-clause-log : goal.returns-clause-log
returns-clause-log g c =
    is_logged c.phase_at.ensures.word c.word.ensures.word refl c.word.ensures.word c.store.ensures.3 c.store.ensures.4
