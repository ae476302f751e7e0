use Rattle.tj_words.proofs.CallTerms.{Load, NextTold, arith, cell_at, is_logged, its_cell, next_load, refl, subst, sym}
use Rattle.tj_words.proofs.CallTerms.{told_step, ◌∙◌}
use Rattle.tj_words.proofs.SeatLoads.KnowLoads.{next_allowed}
use Rattle.tj_words.specs.CallLaws.StepCalls as call
use Rattle.tj_words.proofs.table.Laid.next_of.Goals as goal

pub load-requires : goal.load-requires
load-requires g c = let a = c.args in let e = a.self.now.key_cells in
    let cells = a.self.now.table.shared.table_id.slots in let cell = cell_at c.next_at.result in (
      c.requires.table,
      omega (arith, a.self.now.words, a.self.now.some, c.requires.cell, c.next_at.ensures.word),
      next_allowed _ _ _ _ _ a.t.0 c.next_at.result cells cell (omega (arith, e, c.requires.cell))
          c.next_at.ensures.word (a.self.now.slots ∙ sym e) c.next_at.ensures.cell,
      told_step _ (call.sees_next a.t.0) Load 0 0 refl c.next_at.ensures.word
          (omega (arith, e, a.self.now.some, c.requires.cell, c.next_at.ensures.word)) tt
          (λ s r at m t. (refl, its_cell next_load 0 0 (a.self.now.slots ∙ sym e) c.next_at.ensures.cell t)),
    )

pub returns-clause-first : goal.returns-clause-first
returns-clause-first g c = subst (λ h. NextTold c.args.t.0 h c.args.seat.now.me.0) (sym c.of_word.ensures.head)
    (its_cell next_load 0 0 c.args.self.now.slots c.next_at.ensures.cell c.load.ensures.2).3

pub returns-clause-log : goal.returns-clause-log
returns-clause-log g c =
    is_logged c.next_at.ensures.word refl refl (sym c.of_word.ensures.back) c.load.ensures.3 c.load.ensures.4
