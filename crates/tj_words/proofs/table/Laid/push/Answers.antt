use Rattle.tj_words.proofs.CallTerms.{Exchange, ap, arith, cell_at, exchange_hit, exchange_missed, head_in, head_word}
use Rattle.tj_words.proofs.CallTerms.{is_logged, its_cell, push_exchange, refl, subst, sym, told_step, ◌+◌, ◌∙◌, ◌≡◌}
use Rattle.tj_words.specs.Calls.ChainSteps.{HasPushBehind, pushed}
use Rattle.tj_words.proofs.Calls.FoundHeads.{finds_longer, found_other, word_back}
use Rattle.tj_words.proofs.Waiters.HeadSteps.{is_open, push_allowed}
use Rattle.tj_words.specs.CallLaws.StepCalls as call
use Rattle.tj_words.proofs.table.Laid.push.Goals as goal

pub compare_exchange-requires : goal.compare_exchange-requires
compare_exchange-requires g c = let a = c.args in let e = a.self.now.key_cells in
    let cells = a.self.now.table.shared.table_id.slots in let cell = cell_at c.head_at.result in (
      c.requires.table,
      omega (arith, a.self.now.words, a.self.now.some, c.requires.cell, c.head_at.ensures.word),
      push_allowed _ _ _ _ _ a.p.0 a.t.0 c.head_at.result c.word.result (a.t.0 + 1) cells cell
          a.behind (omega (arith, e, c.requires.cell)) (omega (arith, e, c.requires.task)) c.head_at.ensures.word
          (a.self.now.slots ∙ sym e) c.head_at.ensures.cell c.word.ensures.back (omega arith) c.requires.push
          (is_open a.behind a.self.now.cells (omega (arith, a.self.now.few)) c.requires.small),
      told_step _ (call.pushes a.p.0) Exchange c.word.result (a.t.0 + 1) refl c.head_at.ensures.word
          (omega (arith, e, a.self.now.some, c.requires.cell, c.head_at.ensures.word))
          (let back = word_back a.behind a.self.now.cells (omega (arith, a.self.now.few)) c.requires.small in
          let asked : head_in c.word.result ≡ a.behind = ap head_in c.word.ensures.word ∙ back in (
            a.t.0,
            omega arith,
            omega (arith, e, c.requires.task),
            subst (λ h. HasPushBehind a.t.0 a.p.0 h a.seat.now.me.0) (sym asked) c.requires.push,
            λ z. is_open a.behind a.self.now.cells (omega (arith, a.self.now.few)) c.requires.small (sym asked ∙ z),
          ))
          (λ s r at m t. (
            λ k. exchange_hit _ c.word.result (a.t.0 + 1) k,
            λ k. exchange_missed _ c.word.result (a.t.0 + 1) k,
            its_cell (push_exchange _) c.word.result (a.t.0 + 1) (a.self.now.slots ∙ sym e) c.head_at.ensures.cell t,
          )),
    )

pub returns-clause-pushed : goal.returns-clause-pushed
returns-clause-pushed g c = λ e. let a = c.args in (its_cell (push_exchange _) c.word.result (a.t.0 + 1)
    a.self.now.slots c.head_at.ensures.cell c.compare_exchange.ensures.2).2
    (sym c.of_word.ensures.back ∙ (ap head_word e ∙ sym c.word.ensures.word))
    ∙ ap (λ t. pushed t a.seat.now.me.0) (omega arith)

pub returns-clause-other : goal.returns-clause-other
returns-clause-other g c = λ n m. let a = c.args in
    found_other a.behind c.of_word.result c.compare_exchange.result c.of_word.ensures.head
    (word_back a.behind a.self.now.cells (omega (arith, a.self.now.few)) c.requires.small)
    (λ k. (its_cell (push_exchange _) c.word.result (a.t.0 + 1) a.self.now.slots c.head_at.ensures.cell
    c.compare_exchange.ensures.2).4 (λ q. k (q ∙ c.word.ensures.word))) n m

pub returns-clause-longer : goal.returns-clause-longer
returns-clause-longer g c = λ n m. let a = c.args in finds_longer a.behind n (
    found_other a.behind c.of_word.result c.compare_exchange.result c.of_word.ensures.head
    (word_back a.behind a.self.now.cells (omega (arith, a.self.now.few)) c.requires.small)
    (λ k. (its_cell (push_exchange _) c.word.result (a.t.0 + 1) a.self.now.slots c.head_at.ensures.cell
    c.compare_exchange.ensures.2).4 (λ q. k (q ∙ c.word.ensures.word))) n m)

pub returns-clause-log : goal.returns-clause-log
returns-clause-log g c = is_logged c.head_at.ensures.word c.word.ensures.word (omega arith)
    (sym c.of_word.ensures.back) c.compare_exchange.ensures.3 c.compare_exchange.ensures.4
