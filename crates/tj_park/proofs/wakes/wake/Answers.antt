use Rattle.tj_park.proofs.Prelude.{MayWakeTasks, arith, refl, subst, sym, ◌<◌, ◌∙◌}
use Rattle.tj_park.proofs.WakeLoops.{first_task, may_go_on, rest_now, on_err, waking_at_first, few_woken, fewer_left}
use Rattle.tj_park.proofs.WakeLoops.{steps_at_first, waking_then, woke_some, woke_all}
use Rattle.tj_park.proofs.wakes.wake.Goals as goal

pub loop-first-init : goal.loop-first-init
loop-first-init g c = let s = c.shut-first in
    let k = waking_at_first g.P.Pool.puts c.args.laid.now.cells c.args.p.0 s.result c.args.seat.now.me.0
    s.new.seat.me.0 c.args.pool.now c.requires.may.no_rest s.ensures.again s.ensures.chain in record {
      seat = s.ensures.seat;
      limit = refl;
      waking = (
        k,
        steps_at_first g.P.Pool.puts c.args.laid.now.cells c.args.p.0 s.result c.args.seat.now s.new.seat
            c.args.pool.now c.args.pool.now k s.ensures.log,
      );
    }

pub wake_first-first-requires-clause-table : goal.wake_first-first-requires-clause-table
wake_first-first-requires-clause-table g c κs within = c.loop-first.invariant.seat.0 ∙ c.requires.table

pub wake_first-first-requires-clause-cell : goal.wake_first-first-requires-clause-cell
wake_first-first-requires-clause-cell g c κs within = let k = c.loop-first.invariant.waking.0 in
    (first_task c.args.laid.now.cells c.loop-first.first c.in-Task.t k.left k.begins c.in-Task.is).2

pub wake_first-first-requires-clause-may : goal.wake_first-first-requires-clause-may
wake_first-first-requires-clause-may g c κs within = let i = c.loop-first.invariant in let k = i.waking.0 in
    let l = first_task c.args.laid.now.cells c.loop-first.first c.in-Task.t k.left k.begins c.in-Task.is in
    let old = c.args.seat.now.me in let now = c.loop-first.seat.me in record {
      wakes = subst (λ s. MayWakeTasks (now.0, s)) (sym i.seat.2)
          (may_go_on c.args.p.0 k.front k.left old.0 now.0 old.1 c.requires.may.wakes k.woke);
      left = l.0;
      first = rest_now c.args.p.0 c.in-Task.t.0 k.front k.left l.0 old.0 now.0 k.woke l.1;
    }

pub put-requires : goal.put-requires
put-requires g c = let i = c.loop-first.invariant in let k = i.waking.0 in
    let l = first_task c.args.laid.now.cells c.loop-first.first c.in-Task.t k.left k.begins c.in-Task.is in
    record { below = subst (λ n. c.in-Task.t.0 < n) (sym (i.limit ∙ c.requires.pool)) l.2 }

pub returns-in_err-put-clause-seat : goal.returns-in_err-put-clause-seat
returns-in_err-put-clause-seat g c = let s = c.loop-first.invariant.seat in let n = c.wake_first-first.ensures.seat in
    (n.0 ∙ s.0, n.1 ∙ s.1, n.2 ∙ s.2)

pub returns-in_err-put-clause-limit : goal.returns-in_err-put-clause-limit
returns-in_err-put-clause-limit g c = c.put.ensures.limit ∙ c.loop-first.invariant.limit

pub returns-in_err-put-clause-memory : goal.returns-in_err-put-clause-memory
returns-in_err-put-clause-memory g c = let k = c.loop-first.invariant.waking in on_err c.from_residual.result
    (woke_some g.P.Pool.puts c.args.laid.now.cells c.args.p.0 c.loop-first.first c.wake_first-first.result c.in-Task.t
    c.loop-first.woken c.args.seat.now c.loop-first.seat c.wake_first-first.new.seat c.args.pool.now
    c.loop-first.pool k.0 c.in-Task.is c.wake_first-first.ensures.woke k.1 c.wake_first-first.ensures.log
    g.P.Pool.same c.put.new.self c.in_err-put.ensures.err)

pub overflow_add-woken : goal.overflow_add-woken
overflow_add-woken g c =
    let few = few_woken g.P.Pool.puts c.args.laid.now.cells c.args.p.0 c.loop-first.first c.wake_first-first.result
    c.in-Task.t c.loop-first.woken c.args.seat.now.me.0 c.loop-first.seat.me.0 c.wake_first-first.new.seat.me.0
    c.args.pool.now c.loop-first.pool c.loop-first.invariant.waking.0 c.in-Task.is c.wake_first-first.ensures.woke in
    let most = c.args.laid.now.few in omega arith

pub loop-first-smaller : goal.loop-first-smaller
loop-first-smaller g c =
    fewer_left g.P.Pool.puts c.args.laid.now.cells c.args.p.0 c.loop-first.first c.wake_first-first.result
    c.in-Task.t c.loop-first.woken c.args.seat.now.me.0 c.loop-first.seat.me.0 c.wake_first-first.new.seat.me.0
    c.args.pool.now c.loop-first.pool c.loop-first.invariant.waking.0 c.in-Task.is c.wake_first-first.ensures.woke

pub loop-first-preserved : goal.loop-first-preserved
loop-first-preserved g c = let s = c.loop-first.invariant.seat in let n = c.wake_first-first.ensures.seat in
    let k = c.loop-first.invariant.waking in record {
      seat = (n.0 ∙ s.0, n.1 ∙ s.1, n.2 ∙ s.2);
      limit = c.put.ensures.limit ∙ c.loop-first.invariant.limit;
      waking = waking_then g.P.Pool.puts c.args.laid.now.cells c.args.p.0 c.loop-first.first c.wake_first-first.result
          c.in-Task.t c.loop-first.woken c.args.seat.now c.loop-first.seat c.wake_first-first.new.seat
          c.args.pool.now c.loop-first.pool k.0 c.in-Task.is c.wake_first-first.ensures.woke k.1
          c.wake_first-first.ensures.log c.wake_first-first.ensures.small c.put.new.self c.in_ok-put.ensures.ok;
    }

pub returns : goal.returns
returns g c = let k = c.loop-first.invariant.waking in record {
  seat = c.loop-first.invariant.seat;
  limit = c.loop-first.invariant.limit;
  woke = woke_all g.P.Pool.puts c.args.laid.now.cells c.args.p.0 c.loop-first.first c.loop-first.woken
      c.args.seat.now c.loop-first.seat c.args.pool.now c.loop-first.pool k.0 k.1
      (λ t e. c.in_default.not-Task t e);
  memory = tt;
}
