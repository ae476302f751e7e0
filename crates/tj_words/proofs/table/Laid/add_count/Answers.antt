use Rattle.tj_words.proofs.CallTerms.{Add, MayDraw, arith, count_at, draw_step, its_cell, program_of, refl, subst, sym}
use Rattle.tj_words.proofs.CallTerms.{told_step, up_is, ◌∙◌}
use Rattle.tj_words.proofs.Cells.DrawSteps.{draw_allowed}
use Rattle.tj_words.proofs.SeatLoads.LoadSteps.{count_few}
use Rattle.tj_words.specs.CallLaws.StepCalls as call
use Rattle.tj_words.proofs.table.Laid.add_count.Goals as goal

pub fetch_add-requires : goal.fetch_add-requires
fetch_add-requires g c = let a = c.args in let b = g.B.Body in
    let program = program_of b.places b.awaits b.left b.asks b.then in let e = a.self.now.key_cells in (
      c.requires.table,
      omega (arith, a.self.now.words),
      draw_allowed _ _ c.event_keeps_facts.ensures (λ strict root fresh. c.full_where_names.ensures strict root fresh)
          a.self.now.table.shared.table_id.slots a.seat.now.id a.t.0 a.self.now.table.shared.table_id.slots
          g.M.Naming.task a.sort g.M.Naming.sort a.seat.now.me (a.self.now.slots ∙ sym e) c.requires.named.0
          c.requires.named.1 c.requires.may,
      told_step _ (call.draws g.M.Naming.task g.M.Naming.sort) Add 1 0 refl refl (omega (arith, e, a.self.now.some))
          (subst (λ k. MayDraw program k a.seat.now.me.0) (sym c.requires.named.0) c.requires.may)
          (λ s r at m t. (
            up_is (count_few _ _ s r),
            its_cell (λ cells c. draw_step program cells g.M.Naming.task g.M.Naming.sort) 1 0
                {i = count_at} {m = a.seat.now.me} (a.self.now.slots ∙ sym e) refl t,
          )),
    )
