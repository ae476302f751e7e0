use Rattle.tj_words.proofs.CallTerms.{arith, is_logged, phase_told, refl}
use Rattle.tj_words.proofs.Phases.MarkedPromises.{mark_allowed}
use Rattle.tj_words.proofs.table.Laid.put_promise.Goals as goal

pub store-requires : goal.store-requires
store-requires g c = let a = c.args in let e = a.self.now.key_cells in (
  c.requires.table,
  omega (arith, a.self.now.words, a.self.now.some, c.requires.cell, c.phase_at.ensures.word),
  mark_allowed _ _ _ _ _ a.c.0 c.phase_at.result c.word.result (omega (arith, e, c.requires.cell))
      c.phase_at.ensures.word c.word.ensures.word c.requires.may,
  phase_told _ a.c.0 c.word.result c.phase_at.ensures.word
      (omega (arith, e, a.self.now.some, c.requires.cell, c.phase_at.ensures.word))
      (omega (arith, e, c.requires.cell)) c.word.ensures.back c.requires.may
      (λ s r at m t. (λ j. (t.1 j, t.0 j))),
)

pub returns-clause-log : goal.returns-clause-log
returns-clause-log g c =
    is_logged c.phase_at.ensures.word c.word.ensures.word refl c.word.ensures.word c.store.ensures.3 c.store.ensures.4
