use Rattle.tj_words.proofs.CallTerms.{Load, SeesOnce, ap, arith, cell_at, is_logged, its_cell, none, once_back, once_of}
use Rattle.tj_words.proofs.CallTerms.{program_of, refl, step, subst, sym, told_step, word, ◌∙◌}
use Rattle.tj_words.proofs.SeatLoads.KnowLoads.{once_allowed, once_within}
use Rattle.tj_words.specs.SeatViews.SeenWords.{once_load}
use Rattle.tj_words.specs.CallLaws.StepCalls as call
use Rattle.tj_words.proofs.table.Laid.see_once.Goals as goal

pub load-requires : goal.load-requires
load-requires g c = let a = c.args in let b = g.B.Body in
    let program = program_of b.places b.awaits b.left b.asks b.then in let e = a.self.now.key_cells in (
      c.requires.table,
      (let h = once_within a.c.0 a.self.now.cells a.f c.requires.cell in omega
          (arith, a.self.now.words, c.once_at.ensures.word)),
      once_allowed _ _ c.links_lead_to_tasks.ensures _ _ _ a.c.0 c.once_at.result a.f
          a.self.now.table.shared.table_id.slots (cell_at c.once_at.result) (once_of c.once_at.result)
          (omega (arith, e, c.requires.cell)) c.once_at.ensures.word (a.self.now.slots ∙ sym e) c.once_at.ensures.cell
          (ap once_of c.once_at.ensures.word ∙ once_back a.c.0 a.f) c.requires.may,
      told_step _ (call.sees_once a.c.0 a.f) Load 0 0 refl c.once_at.ensures.word
          (let h = once_within a.c.0 a.self.now.cells a.f c.requires.cell in
          omega (arith, e, c.once_at.ensures.word))
          c.requires.may
          (λ s r at m t. (
            refl,
            subst (λ f. once_load program a.self.now.table.shared.key.cells f a.c.0 (step
                a.self.now.table.shared.table_id.slots c.once_at.result 0 0 none) a.seat.now.me (word s.words
                c.once_at.result) m)
                (ap once_of c.once_at.ensures.word ∙ once_back a.c.0 a.f)
                (its_cell (λ cells. once_load program cells (once_of c.once_at.result)) 0 0 (a.self.now.slots ∙ sym e)
                c.once_at.ensures.cell t),
          )),
    )

pub returns-clause-sees : goal.returns-clause-sees
returns-clause-sees g c = let a = c.args in let b = g.B.Body in
    let program = program_of b.places b.awaits b.left b.asks b.then in
    subst (λ f. SeesOnce program a.self.now.cells f a.c.0 c.load.result a.seat.now.me.0 c.load.new.seat.me.0)
    (ap once_of c.once_at.ensures.word ∙ once_back a.c.0 a.f)
    (its_cell (λ cells. once_load program cells (once_of c.once_at.result)) 0 0 a.self.now.slots c.once_at.ensures.cell
    c.load.ensures.2).1

pub returns-clause-log : goal.returns-clause-log
returns-clause-log g c = is_logged c.once_at.ensures.word refl refl refl c.load.ensures.3 c.load.ensures.4
