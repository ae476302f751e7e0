use Rattle.tj_words.proofs.CallTerms.{IsWalking, Load, ap, arith, is_logged, its_cell, owner_in, owner_seen, refl, subst}
use Rattle.tj_words.proofs.CallTerms.{suc, sym, told_step, walk_load, ◌∙◌, ◌≡◌, ◌≤◌}
use Rattle.tj_words.proofs.SeatLoads.WalkLoads.{owner_read_allowed}
use Rattle.tj_events.specs.CoreState.{present}
use Rattle.tj_words.specs.Calls.WalkViews.{MayLoadOwner, read_on}
use Rattle.tj_words.specs.Words.Owners.{owner_number, owner_word}
use Rattle.tj_words.specs.CallLaws.StepCalls as call
use Rattle.tj_words.proofs.table.Laid.walker_owner.Goals as goal

pub load-requires : goal.load-requires
load-requires g c = let a = c.args in let e = a.self.now.key_cells in
    let cells = a.self.now.table.shared.table_id.slots in (
      c.requires.table,
      omega (arith, a.self.now.words, a.self.now.some, c.requires.cell, c.own_at.ensures.word),
      owner_read_allowed _ _ c.event_keeps_facts.ensures _ _ _ a.t.0 g.M.Naming.task cells a.c.0
          c.own_at.result c.requires.named (a.self.now.slots ∙ sym e) c.own_at.ensures.word
          (omega (arith, e, c.requires.cell)) c.requires.walks,
      told_step _ (call.sees_owner_by g.M.Naming.task a.c.0) Load 0 0 refl c.own_at.ensures.word
          (omega (arith, e, a.self.now.some, c.requires.cell, c.own_at.ensures.word))
          (subst (λ k. IsWalking k (λ p way w. (a.c.0 ≡ present p w.trail) × MayLoadOwner w) a.seat.now.me.0)
          (sym c.requires.named) c.requires.walks)
          (λ s r at m t. (
            refl,
            its_cell (λ cells c. walk_load g.M.Naming.task (λ n w. owner_seen (owner_in n) w w.last) (λ n. n ≤ cells))
                0 0 {m = a.seat.now.me} (a.self.now.slots ∙ sym e) c.own_at.ensures.cell t,
          )),
    )

pub returns-clause-view : goal.returns-clause-view
returns-clause-view g c = let a = c.args in
    let t = its_cell (λ cells c. walk_load g.M.Naming.task (λ n w. owner_seen (owner_in n) w w.last) (λ n. n ≤ cells))
    0 0 {m = a.seat.now.me} a.self.now.slots c.own_at.ensures.cell c.load.ensures.2 in
    subst (λ k. c.load.new.seat.me.0 ≡ read_on k (λ w. owner_seen (owner_number c.owner_of_word.result) w w.last)
    a.seat.now.me.0) c.requires.named
    (subst (λ o. c.load.new.seat.me.0 ≡ read_on g.M.Naming.task (λ w. owner_seen o w w.last) a.seat.now.me.0)
    (sym c.owner_of_word.ensures.owner) t.1)

pub returns-clause-task : goal.returns-clause-task
returns-clause-task g c = λ u e. let a = c.args in
    let b : suc u.0 ≡ c.load.result
    = ap (λ o. owner_word (owner_number o)) (sym e) ∙ c.owner_of_word.ensures.back in
    let l = (its_cell (λ cells c. walk_load g.M.Naming.task (λ n w. owner_seen (owner_in n) w w.last)
    (λ n. n ≤ cells)) 0 0 {m = a.seat.now.me} a.self.now.slots c.own_at.ensures.cell c.load.ensures.2).2 in omega arith

pub returns-clause-log : goal.returns-clause-log
returns-clause-log g c =
    is_logged c.own_at.ensures.word refl refl (sym c.owner_of_word.ensures.back) c.load.ensures.3 c.load.ensures.4
