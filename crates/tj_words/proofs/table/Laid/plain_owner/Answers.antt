use Rattle.tj_words.proofs.CallTerms.{Load, SeesOwner, ap, arith, cell_at, is_logged, its_cell, owner_load, refl, subst}
use Rattle.tj_words.proofs.CallTerms.{suc, sym, told_step, ◌∙◌, ◌≡◌}
use Rattle.tj_words.specs.Words.Owners.{owner_number, owner_word}
use Rattle.tj_words.proofs.SeatLoads.MetCells.{owner_allowed}
use Rattle.tj_words.specs.CallLaws.StepCalls as call
use Rattle.tj_words.proofs.table.Laid.plain_owner.Goals as goal

pub load-requires : goal.load-requires
load-requires g c = let a = c.args in let e = a.self.now.key_cells in
    let cells = a.self.now.table.shared.table_id.slots in let cell = cell_at c.own_at.result in (
      c.requires.table,
      omega (arith, a.self.now.words, a.self.now.some, c.requires.cell, c.own_at.ensures.word),
      owner_allowed _ _ _ _ _ cells cell a.c.0 c.own_at.result (a.self.now.slots ∙ sym e)
          c.own_at.ensures.cell (omega (arith, e, c.requires.cell)) c.own_at.ensures.word,
      told_step _ (call.sees_owner a.c.0) Load 0 0 refl c.own_at.ensures.word
          (omega (arith, e, a.self.now.some, c.requires.cell, c.own_at.ensures.word)) tt
          (λ s r at m t. (refl, its_cell owner_load 0 0 (a.self.now.slots ∙ sym e) c.own_at.ensures.cell t)),
    )

pub returns-clause-view : goal.returns-clause-view
returns-clause-view g c = let a = c.args in
    subst (λ o. SeesOwner a.self.now.cells a.c.0 o a.seat.now.me.0 c.load.new.seat.me.0)
    (sym c.owner_of_word.ensures.owner)
    (its_cell owner_load 0 0 a.self.now.slots c.own_at.ensures.cell c.load.ensures.2).1

pub returns-clause-task : goal.returns-clause-task
returns-clause-task g c = λ u e. let a = c.args in
    let b : suc u.0 ≡ c.load.result
    = ap (λ o. owner_word (owner_number o)) (sym e) ∙ c.owner_of_word.ensures.back in
    let l = (its_cell owner_load 0 0 a.self.now.slots c.own_at.ensures.cell c.load.ensures.2).2 in omega arith

pub returns-clause-log : goal.returns-clause-log
returns-clause-log g c =
    is_logged c.own_at.ensures.word refl refl (sym c.owner_of_word.ensures.back) c.load.ensures.3 c.load.ensures.4
