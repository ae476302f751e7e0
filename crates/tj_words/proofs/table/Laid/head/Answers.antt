use Rattle.tj_words.proofs.CallTerms.{Load, arith, cell_at, is_logged, its_cell, program_of, refl, sym, told_step, ◌∙◌}
use Rattle.tj_words.proofs.SeatLoads.HeadLoads.{head_allowed}
use Rattle.tj_words.specs.SeatViews.SeenWords.{head_load}
use Rattle.tj_words.specs.CallLaws.StepCalls as call
use Rattle.tj_words.proofs.table.Laid.head.Goals as goal

pub load-requires : goal.load-requires
load-requires g c = let a = c.args in let b = g.B.Body in
    let program = program_of b.places b.awaits b.left b.asks b.then in let e = a.self.now.key_cells in (
      c.requires.table,
      omega (arith, a.self.now.words, a.self.now.some, c.requires.cell, c.head_at.ensures.word),
      head_allowed _ _ _ _ _ a.p.0 c.head_at.result a.self.now.table.shared.table_id.slots (cell_at c.head_at.result)
          (omega (arith, e, c.requires.cell)) c.head_at.ensures.word (a.self.now.slots ∙ sym e) c.head_at.ensures.cell,
      told_step _ (call.sees_head a.p.0) Load 0 0 refl c.head_at.ensures.word
          (omega (arith, e, a.self.now.some, c.requires.cell, c.head_at.ensures.word)) tt
          (λ s r at m t. (refl, its_cell (head_load program) 0 0 (a.self.now.slots ∙ sym e) c.head_at.ensures.cell t)),
    )

pub returns-clause-log : goal.returns-clause-log
returns-clause-log g c =
    is_logged c.head_at.ensures.word refl refl (sym c.of_word.ensures.back) c.load.ensures.3 c.load.ensures.4
