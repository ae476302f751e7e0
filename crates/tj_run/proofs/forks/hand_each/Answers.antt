use Rattle.tj_run.proofs.Prelude.{MayGiveEach, ap, arith, cell, drop, gave_each, get_or, refl, subst, sym, ◌+◌, ◌∙◌}
use Rattle.std.proofs.lemmas.List.{drop_all}
use Rattle.tj_run.proofs.Children.GivenPromises.{gave_on, next_given}
use Rattle.tj_run.proofs.Seats.RunningTasks.{in_at}
use Rattle.tj_run.proofs.forks.hand_each.Goals as goal
use Rattle.std.proofs.Common.{[], ◌∷◌}
use Rattle.tj_cells.proofs.CallLogs.{grows_by, grows_on}
use Rattle.tj_run.proofs.Seats.LogGrowth.{still}

pub loop-p-init : goal.loop-p-init
loop-p-init g c = record {
  seat = (refl, refl, refl);
  may = c.requires.may;
  view = refl;
  log = still c.args.seat.now;
}

pub hand-requires-clause-table : goal.hand-requires-clause-table
hand-requires-clause-table g c κs within = c.loop-p.invariant.seat.0 ∙ c.requires.table

pub hand-requires-clause-cell : goal.hand-requires-clause-cell
hand-requires-clause-cell g c κs within = let ps = c.args.promises.now in let i = c.loop-p.p-index in
    c.requires.cells (get_or ps i (cell 0)) (in_at ps (cell 0) i c.loop-p-test.true)

pub hand-requires-clause-may : goal.hand-requires-clause-may
hand-requires-clause-may g c κs within =
    (next_given c.args.t.0 c.args.child.0 c.args.promises.now c.loop-p.p-index c.loop-p.seat.me.0 c.loop-p-test.true
    c.loop-p.invariant.may).0

pub loop-p-preserved : goal.loop-p-preserved
loop-p-preserved g c = let ps = c.args.promises.now in let i = c.loop-p.p-index in let t = c.args.t.0 in
    let k = c.args.child.0 in let s = c.loop-p.invariant.seat in let h = c.hand.ensures.seat in record {
      seat = (h.0 ∙ s.0, h.1 ∙ s.1, h.2 ∙ s.2);
      may = subst (MayGiveEach t (drop (i + 1) ps) k) (sym c.hand.ensures.view)
          (next_given t k ps i c.loop-p.seat.me.0 c.loop-p-test.true c.loop-p.invariant.may).1;
      view = c.loop-p.invariant.view
          ∙ gave_on t k ps i c.loop-p.seat.me.0 c.loop-p-test.true c.hand.new.seat.me.0 c.hand.ensures.view;
      log = grows_on c.args.seat.now c.loop-p.seat c.hand.new.seat c.loop-p.invariant.log
          (grows_by c.loop-p.seat c.hand.new.seat (_ ∷ []) c.hand.ensures.log);
    }

pub returns-clause-seat : goal.returns-clause-seat
returns-clause-seat g c = c.loop-p.invariant.seat

pub returns-clause-view : goal.returns-clause-view
returns-clause-view g c = let most = c.loop-p-test.false in
    sym (c.loop-p.invariant.view ∙ ap (λ l. gave_each c.args.t.0 l c.args.child.0 c.loop-p.seat.me.0)
    (drop_all c.loop-p.p-index c.args.promises.now (omega arith)))

pub returns-clause-log : goal.returns-clause-log
returns-clause-log g c = c.loop-p.invariant.log
