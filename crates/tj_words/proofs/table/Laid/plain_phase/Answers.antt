use Rattle.tj_words.proofs.CallTerms.{FirstTold, Load, SeesPhase, arith, cell_at, is_logged, its_cell, phase_load, refl}
use Rattle.tj_words.proofs.CallTerms.{subst, sym, told_step, ◌∙◌}
use Rattle.tj_words.proofs.SeatLoads.PhaseLoads.{phase_allowed}
use Rattle.tj_words.specs.CallLaws.StepCalls as call
use Rattle.tj_words.proofs.table.Laid.plain_phase.Goals as goal

pub load-requires : goal.load-requires
load-requires g c = let a = c.args in let e = a.self.now.key_cells in
    let cells = a.self.now.table.shared.table_id.slots in let cell = cell_at c.phase_at.result in (
      c.requires.table,
      omega (arith, a.self.now.words, a.self.now.some, c.requires.cell, c.phase_at.ensures.word),
      phase_allowed _ _ _ _ _ cells cell a.t.0 c.phase_at.result (a.self.now.slots ∙ sym e)
          c.phase_at.ensures.cell (omega (arith, e, c.requires.cell)) c.phase_at.ensures.word,
      told_step _ (call.sees_phase a.t.0) Load 0 0 refl c.phase_at.ensures.word
          (omega (arith, e, a.self.now.some, c.requires.cell, c.phase_at.ensures.word)) tt
          (λ s r at m t. (refl, its_cell phase_load 0 0 (a.self.now.slots ∙ sym e) c.phase_at.ensures.cell t)),
    )

pub returns-clause-view : goal.returns-clause-view
returns-clause-view g c = let a = c.args in
    subst (λ p. SeesPhase a.self.now.cells a.t.0 p a.seat.now.me.0 c.load.new.seat.me.0)
    (sym c.of_word.ensures.phase)
    (its_cell phase_load 0 0 a.self.now.slots c.phase_at.ensures.cell c.load.ensures.2).1

pub returns-clause-first : goal.returns-clause-first
returns-clause-first g c = subst (λ p. FirstTold c.args.t.0 p c.args.seat.now.me.0) (sym c.of_word.ensures.phase)
    (its_cell phase_load 0 0 c.args.self.now.slots c.phase_at.ensures.cell c.load.ensures.2).3

pub returns-clause-log : goal.returns-clause-log
returns-clause-log g c =
    is_logged c.phase_at.ensures.word refl refl (sym c.of_word.ensures.back) c.load.ensures.3 c.load.ensures.4
