use Rattle.tj_words.proofs.CallTerms.{IsPhaseWord, IsWalking, Load, arith, cell_at, is_logged, its_cell, phase_in, refl}
use Rattle.tj_words.proofs.CallTerms.{subst, sym, told_step, wait_found, wait_in, walk_load, ◌∙◌, ◌≡◌}
use Rattle.tj_words.proofs.SeatLoads.WalkLoads.{wait_read_allowed}
use Rattle.tj_words.specs.Calls.WalkViews.{MayLoadWait, read_on}
use Rattle.tj_words.specs.CallLaws.StepCalls as call
use Rattle.tj_words.proofs.table.Laid.walker_wait.Goals as goal

pub load-requires : goal.load-requires
load-requires g c = let a = c.args in let e = a.self.now.key_cells in
    let cells = a.self.now.table.shared.table_id.slots in (
      c.requires.table,
      omega (arith, a.self.now.words, a.self.now.some, c.requires.cell, c.phase_at.ensures.word),
      wait_read_allowed _ _ c.event_keeps_facts.ensures _ _ _ a.t.0 g.M.Naming.task a.u.0
          (cell_at c.phase_at.result)
          cells c.phase_at.result c.requires.named c.phase_at.ensures.cell (a.self.now.slots ∙ sym e)
          c.phase_at.ensures.word (omega (arith, e, c.requires.cell)) c.requires.walks,
      told_step _ (call.sees_phase_by g.M.Naming.task a.u.0) Load 0 0 refl c.phase_at.ensures.word
          (omega (arith, e, a.self.now.some, c.requires.cell, c.phase_at.ensures.word))
          (subst (λ k. IsWalking k (λ p way w. MayLoadWait k a.u.0 w) a.seat.now.me.0) (sym c.requires.named)
          c.requires.walks)
          (λ s r at m t. (
            refl,
            its_cell (λ cells c. walk_load g.M.Naming.task (λ n. wait_found c (wait_in (phase_in n)))
                (IsPhaseWord cells)) 0 0 {m = a.seat.now.me} (a.self.now.slots ∙ sym e) c.phase_at.ensures.cell t,
          )),
    )

pub returns-clause-view : goal.returns-clause-view
returns-clause-view g c = let a = c.args in
    let t = its_cell (λ cells c. walk_load g.M.Naming.task (λ n. wait_found c (wait_in (phase_in n)))
    (IsPhaseWord cells)) 0 0 {m = a.seat.now.me} a.self.now.slots c.phase_at.ensures.cell c.load.ensures.2 in
    subst (λ k. c.load.new.seat.me.0 ≡ read_on k (wait_found a.u.0 (wait_in c.of_word.result)) a.seat.now.me.0)
    c.requires.named
    (subst (λ p. c.load.new.seat.me.0 ≡ read_on g.M.Naming.task (wait_found a.u.0 (wait_in p)) a.seat.now.me.0)
    (sym c.of_word.ensures.phase) t.1)

pub returns-clause-log : goal.returns-clause-log
returns-clause-log g c =
    is_logged c.phase_at.ensures.word refl refl (sym c.of_word.ensures.back) c.load.ensures.3 c.load.ensures.4
