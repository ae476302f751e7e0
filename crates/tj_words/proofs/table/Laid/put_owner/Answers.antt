use Rattle.tj_words.proofs.CallTerms.{PutsOwner, Store, arith, cell_at, is_logged, its_cell, refl, subst, sym}
use Rattle.tj_words.proofs.CallTerms.{told_step, word}
use Rattle.tj_words.specs.Calls.OwnerViews.{MayPutOwner, owner_put}
use Rattle.tj_words.proofs.Cells.OwnerStores.{owner_allowed}
use Rattle.tj_words.specs.CallLaws.StepCalls as call
use Rattle.tj_words.proofs.table.Laid.put_owner.Goals as goal

pub store-requires : goal.store-requires
store-requires g c = let a = c.args in let e = a.self.now.key_cells in (
  c.requires.table,
  omega (arith, a.self.now.words, c.requires.cell, c.own_at.ensures.word),
  owner_allowed _ _ c.event_keeps_facts.ensures _ _ _ a.c.0 c.own_at.result c.word_of_owner.result
      (cell_at c.own_at.result) (omega (arith, e, c.requires.cell)) c.own_at.ensures.word c.own_at.ensures.cell
      (subst (λ o. MayPutOwner a.c.0 o a.seat.now.me.0) (sym c.word_of_owner.ensures.back) c.requires.may),
  told_step _ (call.puts_owner a.c.0) Store c.word_of_owner.result 0 refl c.own_at.ensures.word
      (omega (arith, e, a.self.now.some, c.requires.cell, c.own_at.ensures.word)) tt
      (λ s r at m t. (
        refl,
        (
          (subst (λ o. MayPutOwner a.c.0 o a.seat.now.me.0) (sym c.word_of_owner.ensures.back) c.requires.may),
          its_cell (λ cells. owner_put) c.word_of_owner.result 0 {n = word s.words c.own_at.result} a.self.now.slots
              c.own_at.ensures.cell t,
        ),
      )),
)

pub returns-clause-view : goal.returns-clause-view
returns-clause-view g c = let a = c.args in subst (λ o. PutsOwner a.c.0 o a.seat.now.me.0 c.store.new.seat.me.0)
    c.word_of_owner.ensures.back
    (its_cell (λ cells. owner_put) c.word_of_owner.result 0 {n = c.word_of_owner.result} a.self.now.slots
    c.own_at.ensures.cell c.store.ensures.2).1

pub returns-clause-log : goal.returns-clause-log
returns-clause-log g c = is_logged c.own_at.ensures.word c.word_of_owner.ensures.word refl
    c.word_of_owner.ensures.word c.store.ensures.3 c.store.ensures.4
