use Rattle.tj_park.proofs.Prelude.{MayWake, cell, get_or, program_of, refl, subst, sym, ◌∙◌}
use Rattle.std.proofs.Common.{arith}
use Rattle.tj_park.proofs.BreakSteps.{none_broken, may_give_up, will_break, is_small, may_wake_broken, one_broken}
use Rattle.tj_park.proofs.BreakSteps.{about_kept, next_left, none_left, notes_kept}
use Rattle.tj_park.proofs.EndLogs.{break_fails, breaks_all, breaks_next}
use Rattle.tj_park.proofs.WakeLoops.{on_err}
use Rattle.tj_park.proofs.finishes.break_promises.Goals as goal

pub loop-p-init : goal.loop-p-init
loop-p-init g c = record {
  seat = (refl, refl, refl);
  limit = refl;
  broken = none_broken (program_of g.B.Body.places g.B.Body.awaits g.B.Body.left g.B.Body.asks g.B.Body.then)
      c.args.t.0 c.args.promises.now c.args.seat.now.me.0 c.requires.may;
  breaks = (refl, refl);
}

pub break_off-requires-clause-table : goal.break_off-requires-clause-table
break_off-requires-clause-table g c κs within = c.loop-p.invariant.seat.0 ∙ c.requires.table

pub break_off-requires-clause-cell : goal.break_off-requires-clause-cell
break_off-requires-clause-cell g c κs within =
    is_small c.requires.may (next_left c.loop-p.p-index c.loop-p.invariant.broken c.loop-p-test.true)
    c.args.laid.now.cells c.requires.few

pub break_off-requires-clause-owner : goal.break_off-requires-clause-owner
break_off-requires-clause-owner g c κs within =
    may_give_up c.requires.may (next_left c.loop-p.p-index c.loop-p.invariant.broken c.loop-p-test.true)

pub break_off-requires-clause-broken : goal.break_off-requires-clause-broken
break_off-requires-clause-broken g c κs within =
    will_break c.requires.may (next_left c.loop-p.p-index c.loop-p.invariant.broken c.loop-p-test.true)

pub wake-requires-clause-table : goal.wake-requires-clause-table
wake-requires-clause-table g c κs within =
    c.break_off.ensures.seat.0 ∙ (c.loop-p.invariant.seat.0 ∙ c.requires.table)

pub wake-requires-clause-cell : goal.wake-requires-clause-cell
wake-requires-clause-cell g c κs within =
    is_small c.requires.may (next_left c.loop-p.p-index c.loop-p.invariant.broken c.loop-p-test.true)
    c.args.laid.now.cells c.requires.few

pub wake-requires-clause-may : goal.wake-requires-clause-may
wake-requires-clause-may g c κs within =
    subst (λ s. MayWake (get_or c.args.promises.now c.loop-p.p-index (cell 0)).0 (c.break_off.new.seat.me.0, s))
    (sym (c.break_off.ensures.seat.2 ∙ c.loop-p.invariant.seat.2))
    (may_wake_broken c.requires.may (next_left c.loop-p.p-index c.loop-p.invariant.broken c.loop-p-test.true)
    c.break_off.ensures.view c.args.seat.now.me.1 c.requires.slots)

pub wake-requires-clause-pool : goal.wake-requires-clause-pool
wake-requires-clause-pool g c κs within = c.loop-p.invariant.limit ∙ c.requires.pool

pub returns-in_err-wake-clause-seat : goal.returns-in_err-wake-clause-seat
returns-in_err-wake-clause-seat g c = let i = c.loop-p.invariant.seat in let b = c.break_off.ensures.seat in
    let w = c.wake.ensures.seat in (w.0 ∙ (b.0 ∙ i.0), w.1 ∙ (b.1 ∙ i.1), w.2 ∙ (b.2 ∙ i.2))

pub returns-in_err-wake-clause-about : goal.returns-in_err-wake-clause-about
returns-in_err-wake-clause-about g c =
    about_kept _ _ _ c.args.t.0 c.args.seat.now.me.0 c.loop-p.seat.me.0 c.break_off.new.seat.me.0 c.wake.new.seat.me.0
    c.loop-p.invariant.broken.knows.about c.break_off.ensures.view c.in_err-wake.ensures.memory.woke

pub returns-in_err-wake-clause-limit : goal.returns-in_err-wake-clause-limit
returns-in_err-wake-clause-limit g c = c.wake.ensures.limit ∙ c.loop-p.invariant.limit

pub loop-p-preserved : goal.loop-p-preserved
loop-p-preserved g c =
    let ps = c.args.promises.now in
    let i = c.loop-p.p-index in
    let h = next_left i c.loop-p.invariant.broken c.loop-p-test.true in
    let s = c.loop-p.invariant.seat in
    let b = c.break_off.ensures.seat in
    let w = c.wake.ensures.seat in
    let woke = c.in_ok-wake.ensures.woke in
    record {
      seat = (w.0 ∙ (b.0 ∙ s.0), w.1 ∙ (b.1 ∙ s.1), w.2 ∙ (b.2 ∙ s.2));
      limit = c.wake.ensures.limit ∙ c.loop-p.invariant.limit;
      broken = one_broken c.requires.may h c.break_off.ensures.view woke.woke;
      breaks = breaks_next g.P.Pool.puts c.args.t.0 ps i c.args.seat.now c.loop-p.seat c.break_off.new.seat
          c.wake.new.seat c.args.pool.now c.loop-p.pool c.wake.new.pool c.loop-p.invariant.breaks c.loop-p-test.true
          c.break_off.ensures.log c.break_off.ensures.view c.in_ok-wake.field-0 woke;
    }

pub returns-clause-seat : goal.returns-clause-seat
returns-clause-seat g c = c.loop-p.invariant.seat

pub returns-clause-about : goal.returns-clause-about
returns-clause-about g c = c.loop-p.invariant.broken.knows.about

pub returns-clause-limit : goal.returns-clause-limit
returns-clause-limit g c = c.loop-p.invariant.limit

pub returns-clause-broken : goal.returns-clause-broken
returns-clause-broken g c =
    let most = c.loop-p-test.false in
    none_left c.loop-p.p-index c.loop-p.invariant.broken (omega arith)

pub returns-clause-breaks : goal.returns-clause-breaks
returns-clause-breaks g c = let most = c.loop-p-test.false in
    breaks_all g.P.Pool.puts c.args.promises.now c.loop-p.p-index c.args.seat.now c.loop-p.seat
    c.args.pool.now c.loop-p.pool c.loop-p.invariant.breaks (omega arith)

pub returns-in_err-wake-clause-memory : goal.returns-in_err-wake-clause-memory
returns-in_err-wake-clause-memory g c = on_err c.from_residual.result
    (break_fails g.P.Pool.puts c.args.t.0 c.args.promises.now c.loop-p.p-index c.args.seat.now c.loop-p.seat
    c.break_off.new.seat c.wake.new.seat c.args.pool.now c.loop-p.pool c.wake.new.pool c.loop-p.invariant.breaks
    c.loop-p-test.true c.break_off.ensures.log c.break_off.ensures.view g.P.Pool.same
    c.in_err-wake.ensures.memory)

pub returns-in_err-wake-clause-notes : goal.returns-in_err-wake-clause-notes
returns-in_err-wake-clause-notes g c =
    notes_kept _ _ _ c.args.t.0 c.args.seat.now.me.0 c.loop-p.seat.me.0 c.break_off.new.seat.me.0 c.wake.new.seat.me.0
    c.loop-p.invariant.broken.knows.notes c.break_off.ensures.view c.in_err-wake.ensures.memory.woke

pub returns-clause-notes : goal.returns-clause-notes
returns-clause-notes g c = c.loop-p.invariant.broken.knows.notes
