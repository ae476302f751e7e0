use Rattle.tj_words.proofs.CallTerms.{IsCount, IsWalking, Load, arith, count_at, count_read, its_cell, min, refl, subst}
use Rattle.tj_words.proofs.CallTerms.{sym, told_step, walk_load, ◌∙◌, ◌≡◌}
use Rattle.tj_words.proofs.SeatLoads.WalkLoads.{count_read_allowed}
use Rattle.tj_words.specs.Calls.WalkViews.{read_on}
use Rattle.tj_events.specs.Events.{MayCount}
use Rattle.tj_words.specs.CallLaws.StepCalls as call
use Rattle.tj_words.proofs.table.Laid.walker_count.Goals as goal

pub load-found-requires : goal.load-found-requires
load-found-requires g c = let a = c.args in let e = a.self.now.key_cells in
    let cells = a.self.now.table.shared.table_id.slots in (
      c.requires.table,
      omega (arith, a.self.now.words, a.self.now.some),
      count_read_allowed _ _ c.event_keeps_facts.ensures _ _ _ a.t.0 g.M.Naming.task cells
          c.requires.named (a.self.now.slots ∙ sym e) c.requires.walks,
      told_step _ (call.counts_by g.M.Naming.task) Load 0 0 refl refl (omega (arith, e, a.self.now.some))
          (subst (λ k. IsWalking k (λ p way w. MayCount way w) a.seat.now.me.0) (sym c.requires.named)
          c.requires.walks)
          (λ s r at m t. (
            refl,
            its_cell (λ cells c. walk_load g.M.Naming.task (λ n. count_read (min n cells)) (IsCount cells)) 0 0
                {i = count_at} {m = a.seat.now.me} (a.self.now.slots ∙ sym e) refl t,
          )),
    )

pub returns-clause-view : goal.returns-clause-view
returns-clause-view g c = let a = c.args in
    let t = its_cell (λ cells c. walk_load g.M.Naming.task (λ n. count_read (min n cells)) (IsCount cells)) 0 0
    {i = count_at} {m = a.seat.now.me} a.self.now.slots refl c.load-found.ensures.2 in
    subst (λ k. c.load-found.new.seat.me.0 ≡ read_on k (count_read c.min.result) a.seat.now.me.0) c.requires.named
    (subst (λ n. c.load-found.new.seat.me.0 ≡ read_on g.M.Naming.task (count_read n) a.seat.now.me.0)
    (sym c.min.ensures) t.1)

pub returns-clause-log : goal.returns-clause-log
returns-clause-log g c = (c.load-found.result, c.min.ensures, (c.load-found.ensures.3, c.load-found.ensures.4))
