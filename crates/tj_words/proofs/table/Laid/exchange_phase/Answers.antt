use Rattle.tj_words.proofs.CallTerms.{Exchange, arith, cell_at, exchange_hit, exchange_missed, is_logged, its_cell}
use Rattle.tj_words.proofs.CallTerms.{phase_swap, program_of, refl, sym, told_step, ◌∙◌}
use Rattle.tj_words.proofs.Phases.PhaseExchanges.{swap_allowed}
use Rattle.std.proofs.Common.{subst₂}
use Rattle.tj_words.specs.Calls.ExchangeViews.{MaySwap}
use Rattle.tj_words.specs.CallLaws.StepCalls as call
use Rattle.tj_words.proofs.table.Laid.exchange_phase.Goals as goal

pub compare_exchange-requires : goal.compare_exchange-requires
compare_exchange-requires g c = let a = c.args in let b = g.B.Body in
    let program = program_of b.places b.awaits b.left b.asks b.then in let e = a.self.now.key_cells in
    let cells = a.self.now.table.shared.table_id.slots in let cell = cell_at c.phase_at.result in (
      c.requires.table,
      omega (arith, a.self.now.words, a.self.now.some, c.requires.cell, c.phase_at.ensures.word),
      swap_allowed _ _ c.event_keeps_facts.ensures _ _ _ cells cell a.t.0 c.phase_at.result
          c.word.result c.word-2.result a.was a.to (a.self.now.slots ∙ sym e) c.phase_at.ensures.cell
          (omega (arith, e, c.requires.cell)) c.phase_at.ensures.word c.word.ensures.word c.word.ensures.back
          c.word-2.ensures.word c.word-2.ensures.back c.requires.may,
      told_step _ (call.swaps_phase a.t.0) Exchange c.word.result c.word-2.result refl c.phase_at.ensures.word
          (omega (arith, e, a.self.now.some, c.requires.cell, c.phase_at.ensures.word)) tt
          (λ s r at m t. (
            λ k. exchange_hit _ c.word.result c.word-2.result k,
            λ k. exchange_missed _ c.word.result c.word-2.result k,
            (
              subst₂ (λ p q. MaySwap a.t.0 p q a.seat.now.me.0) (sym c.word.ensures.back) (sym c.word-2.ensures.back)
                  c.requires.may,
              its_cell (λ n d. phase_swap program d n) c.word.result c.word-2.result (a.self.now.slots ∙ sym e)
                  c.phase_at.ensures.cell t,
            ),
          )),
    )

pub returns-clause-log : goal.returns-clause-log
returns-clause-log g c = is_logged c.phase_at.ensures.word c.word.ensures.word c.word-2.ensures.word refl
    c.compare_exchange.ensures.3 c.compare_exchange.ensures.4
