use Rattle.tj_words.proofs.CallTerms.{Store, ap, arith, cell_at, is_logged, its_cell, once_back, once_of, refl, subst}
use Rattle.tj_words.proofs.CallTerms.{told_step, word, ◌∙◌, ◌≡◌}
use Rattle.tj_words.proofs.SeatLoads.KnowLoads.{once_within}
use Rattle.tj_words.proofs.Stores.WordStores.{word_allowed}
use Rattle.tj_words.specs.Calls.DrawViews.{word_store, wrote_word}
use Rattle.tj_words.proofs.Calls.ToldSteps.{tree_may, tree_puts}
use Rattle.tj_words.specs.CallLaws.StepCalls as call
use Rattle.tj_words.proofs.table.Laid.put_tree_word.Goals as goal

pub store-requires : goal.store-requires
store-requires g c = let a = c.args in let e = a.self.now.key_cells in (
  c.requires.table,
  (let h = once_within a.c.0 a.self.now.cells a.f c.requires.cell in
      omega (arith, a.self.now.words, c.once_at.ensures.word)),
  word_allowed _ _ _ _ _ a.c.0 c.once_at.result a.v (cell_at c.once_at.result) a.f (once_of c.once_at.result)
      (omega (arith, e, c.requires.cell)) c.once_at.ensures.word c.once_at.ensures.cell
      (ap once_of c.once_at.ensures.word ∙ once_back a.c.0 a.f) c.requires.may,
  told_step _ (call.puts_once a.c.0 a.f) Store a.v 0 refl c.once_at.ensures.word
      (let h = once_within a.c.0 a.self.now.cells a.f c.requires.cell in
      omega (arith, e, c.once_at.ensures.word)) tt
      (λ s r at m t. (
        refl,
        (
          tree_may _ a.f c.requires.may,
          t.0,
          tree_puts _ a.f c.requires.may (subst (λ f. m.0 ≡ wrote_word a.c.0 f a.v a.seat.now.me.0)
              (ap once_of c.once_at.ensures.word ∙ once_back a.c.0 a.f)
              (its_cell (λ cells d. word_store d (once_of c.once_at.result)) a.v 0 {n = word s.words
              c.once_at.result} a.self.now.slots c.once_at.ensures.cell t).1),
        ),
      )),
)

pub returns-clause-view : goal.returns-clause-view
returns-clause-view g c = let a = c.args in
    subst (λ f. c.store.new.seat.me.0 ≡ wrote_word a.c.0 f a.v a.seat.now.me.0)
    (ap once_of c.once_at.ensures.word ∙ once_back a.c.0 a.f)
    (its_cell (λ cells d. word_store d (once_of c.once_at.result)) a.v 0 {n = a.v} a.self.now.slots
    c.once_at.ensures.cell c.store.ensures.2).1

pub returns-clause-log : goal.returns-clause-log
returns-clause-log g c = is_logged c.once_at.ensures.word refl refl refl c.store.ensures.3 c.store.ensures.4
