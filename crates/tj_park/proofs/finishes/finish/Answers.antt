use Rattle.tj_park.proofs.Prelude.{MayBreak, inl, inr, numbers, program_of, subst, sym, ◌∙◌}
use Rattle.tj_park.proofs.EndSteps.{is_cell, may_break}
use Rattle.tj_park.proofs.EndRuns.{begun, may_close, laid, may_end, at_end, may_wake, unnoted, about_woken, notes_woken}
use Rattle.tj_park.proofs.EndRuns.{lies_for_good, may_lower, finished, sent_home, slots_then, unnoted_last}
use Rattle.tj_park.proofs.EndLogs.{stores_ended}
use Rattle.tj_park.proofs.WakeLoops.{on_err}
use Rattle.tj_park.specs.EndLogs.{BreaksSome}
use Rattle.tj_park.proofs.finishes.finish.Goals as goal

pub break_promises-requires-clause-may : goal.break_promises-requires-clause-may
break_promises-requires-clause-may g c κs within = let m = c.requires.may in
    let written = c.points_in_rounds.ensures.written m.about.strict m.about.root m.rooted in
    let ordered = c.names_and_cells.ensures.elements in
    subst (λ l. MayBreak (program_of g.B.Body.places g.B.Body.awaits g.B.Body.left g.B.Body.asks g.B.Body.then)
    c.args.t.0 l c.args.seat.now.me.0) (sym c.promises.ensures.promises)
    (may_break (program_of g.B.Body.places g.B.Body.awaits g.B.Body.left g.B.Body.asks g.B.Body.then)
    c.args.t.0 c.args.rec c.args.seat.now.me.0 m written ordered)

pub close_result-requires-clause-cell : goal.close_result-requires-clause-cell
close_result-requires-clause-cell g c κs within = let m = c.requires.may in
    let written = c.points_in_rounds.ensures.written m.about.strict m.about.root m.rooted in
    let ordered = c.names_and_cells.ensures.elements in
    is_cell (program_of g.B.Body.places g.B.Body.awaits g.B.Body.left g.B.Body.asks g.B.Body.then)
    c.args.t.0 c.args.rec c.args.seat.now.me.0 m written ordered c.args.laid.now.cells c.requires.few

pub put_phase-requires-clause-cell : goal.put_phase-requires-clause-cell
put_phase-requires-clause-cell g c κs within = let m = c.requires.may in
    let written = c.points_in_rounds.ensures.written m.about.strict m.about.root m.rooted in
    let ordered = c.names_and_cells.ensures.elements in
    is_cell (program_of g.B.Body.places g.B.Body.awaits g.B.Body.left g.B.Body.asks g.B.Body.then)
    c.args.t.0 c.args.rec c.args.seat.now.me.0 m written ordered c.args.laid.now.cells c.requires.few

pub wake-requires-clause-cell : goal.wake-requires-clause-cell
wake-requires-clause-cell g c κs within = let m = c.requires.may in
    let written = c.points_in_rounds.ensures.written m.about.strict m.about.root m.rooted in
    let ordered = c.names_and_cells.ensures.elements in
    is_cell (program_of g.B.Body.places g.B.Body.awaits g.B.Body.left g.B.Body.asks g.B.Body.then)
    c.args.t.0 c.args.rec c.args.seat.now.me.0 m written ordered c.args.laid.now.cells c.requires.few

pub close_result-requires-clause-may : goal.close_result-requires-clause-may
close_result-requires-clause-may g c κs within =
    let m = c.requires.may in
    let e = begun c.args.seat.now.me.1 m (c.points_in_rounds.ensures.written m.about.strict m.about.root m.rooted)
    c.names_and_cells.ensures.elements c.promises.ensures.promises c.in_ok-break_promises.ensures.broken
    c.requires.others in
    may_close e c.finish.ensures

pub put_phase-requires-clause-may : goal.put_phase-requires-clause-may
put_phase-requires-clause-may g c κs within =
    let m = c.requires.may in
    let e = begun c.args.seat.now.me.1 m (c.points_in_rounds.ensures.written m.about.strict m.about.root m.rooted)
    c.names_and_cells.ensures.elements c.promises.ensures.promises c.in_ok-break_promises.ensures.broken
    c.requires.others in
    may_end e (laid e c.slot_swap.ensures.me c.close_result.ensures.view c.finish.ensures c.end.ensures
    (c.close_result.ensures.seat.2 ∙ c.break_promises.ensures.seat.2))

pub wake-requires-clause-may : goal.wake-requires-clause-may
wake-requires-clause-may g c κs within =
    let m = c.requires.may in
    let e = begun c.args.seat.now.me.1 m (c.points_in_rounds.ensures.written m.about.strict m.about.root m.rooted)
    c.names_and_cells.ensures.elements c.promises.ensures.promises c.in_ok-break_promises.ensures.broken
    c.requires.others in
    let end = at_end e c.slot_swap.ensures.me c.close_result.ensures.view c.finish.ensures c.end.ensures
    (c.close_result.ensures.seat.2 ∙ c.break_promises.ensures.seat.2) c.put_phase.ensures.puts in
    may_wake e end

pub live_down-requires-clause-may : goal.live_down-requires-clause-may
live_down-requires-clause-may g c κs within =
    let m = c.requires.may in
    let e = begun c.args.seat.now.me.1 m (c.points_in_rounds.ensures.written m.about.strict m.about.root m.rooted)
    c.names_and_cells.ensures.elements c.promises.ensures.promises c.in_ok-break_promises.ensures.broken
    c.requires.others in
    let end = at_end e c.slot_swap.ensures.me c.close_result.ensures.view c.finish.ensures c.end.ensures
    (c.close_result.ensures.seat.2 ∙ c.break_promises.ensures.seat.2) c.put_phase.ensures.puts in
    may_lower e end c.in_ok-wake.ensures.woke.woke c.wake.ensures.seat.2

pub returns-clause-ended : goal.returns-clause-ended
returns-clause-ended g c =
    let m = c.requires.may in
    let e = begun c.args.seat.now.me.1 m (c.points_in_rounds.ensures.written m.about.strict m.about.root m.rooted)
    c.names_and_cells.ensures.elements c.promises.ensures.promises c.in_ok-break_promises.ensures.broken
    c.requires.others in
    let end = at_end e c.slot_swap.ensures.me c.close_result.ensures.view c.finish.ensures c.end.ensures
    (c.close_result.ensures.seat.2 ∙ c.break_promises.ensures.seat.2) c.put_phase.ensures.puts in
    finished e end c.in_ok-wake.ensures.woke.woke c.wake.ensures.seat.2 c.live_down.ensures.me

pub returns-in_err-break_promises-clause-about : goal.returns-in_err-break_promises-clause-about
returns-in_err-break_promises-clause-about g c = c.break_promises.ensures.about

pub returns-in_err-wake-clause-about : goal.returns-in_err-wake-clause-about
returns-in_err-wake-clause-about g c =
    let m = c.requires.may in
    let e = begun c.args.seat.now.me.1 m (c.points_in_rounds.ensures.written m.about.strict m.about.root m.rooted)
    c.names_and_cells.ensures.elements c.promises.ensures.promises c.in_ok-break_promises.ensures.broken
    c.requires.others in
    let end = at_end e c.slot_swap.ensures.me c.close_result.ensures.view c.finish.ensures c.end.ensures
    (c.close_result.ensures.seat.2 ∙ c.break_promises.ensures.seat.2) c.put_phase.ensures.puts in
    about_woken e end c.in_err-wake.ensures.memory.woke

pub returns-clause-about : goal.returns-clause-about
returns-clause-about g c = (returns-clause-ended g c).knows.about

pub returns-clause-slots : goal.returns-clause-slots
returns-clause-slots g c =
    let m = c.requires.may in
    let e = begun c.args.seat.now.me.1 m (c.points_in_rounds.ensures.written m.about.strict m.about.root m.rooted)
    c.names_and_cells.ensures.elements c.promises.ensures.promises c.in_ok-break_promises.ensures.broken
    c.requires.others in
    let end = at_end e c.slot_swap.ensures.me c.close_result.ensures.view c.finish.ensures c.end.ensures
    (c.close_result.ensures.seat.2 ∙ c.break_promises.ensures.seat.2) c.put_phase.ensures.puts in
    slots_then e end c.in_ok-wake.ensures.woke.woke c.wake.ensures.seat.2 c.live_down.ensures.me

pub returns-clause-steps : goal.returns-clause-steps
returns-clause-steps g c =
    let m = c.requires.may in
    let e = begun c.args.seat.now.me.1 m (c.points_in_rounds.ensures.written m.about.strict m.about.root m.rooted)
    c.names_and_cells.ensures.elements c.promises.ensures.promises c.in_ok-break_promises.ensures.broken
    c.requires.others in
    let end = at_end e c.slot_swap.ensures.me c.close_result.ensures.view c.finish.ensures c.end.ensures
    (c.close_result.ensures.seat.2 ∙ c.break_promises.ensures.seat.2) c.put_phase.ensures.puts in
    record {
      ended = c.put_phase.new.seat;
      woken = c.wake.new.seat;
      between = c.break_promises.new.pool;
      number = c.in_ok-wake.field-0;
      live = c.live_down.ensures.log.0;
      stores = stores_ended g.P.Pool.puts c.args.t.0 c.args.rec m.finish c.args.seat.now c.break_promises.new.seat
          c.close_result.new.seat c.slot_swap.new.seat c.put_phase.new.seat c.args.pool.now
          c.break_promises.new.pool m.finished c.promises.ensures.promises c.in_ok-break_promises.ensures.breaks
          c.finish.ensures c.close_result.ensures.log c.slot_swap.ensures.log c.put_phase.ensures.log
          (unnoted e end) (sent_home e end);
      wakes = c.in_ok-wake.ensures.woke;
      lowers = c.live_down.ensures.log.1;
      noted = unnoted_last e end c.in_ok-wake.ensures.woke.woke c.wake.ensures.seat.2 c.live_down.ensures.me;
    }

pub returns-in_err-break_promises-clause-memory : goal.returns-in_err-break_promises-clause-memory
returns-in_err-break_promises-clause-memory g c = on_err c.from_residual.result
    (inl (subst (λ l. BreaksSome g.P.Pool.puts g.P.Pool.same (numbers l) c.args.seat.now c.break_promises.new.seat
    c.args.pool.now c.break_promises.new.pool) c.promises.ensures.promises
    c.in_err-break_promises.ensures.memory))

pub returns-in_err-wake-clause-memory : goal.returns-in_err-wake-clause-memory
returns-in_err-wake-clause-memory g c =
    let m = c.requires.may in
    let e = begun c.args.seat.now.me.1 m (c.points_in_rounds.ensures.written m.about.strict m.about.root m.rooted)
    c.names_and_cells.ensures.elements c.promises.ensures.promises c.in_ok-break_promises.ensures.broken
    c.requires.others in
    let end = at_end e c.slot_swap.ensures.me c.close_result.ensures.view c.finish.ensures c.end.ensures
    (c.close_result.ensures.seat.2 ∙ c.break_promises.ensures.seat.2) c.put_phase.ensures.puts in
    on_err c.from_residual-in_err-wake.result (inr (
      c.put_phase.new.seat,
      c.break_promises.new.pool,
      stores_ended g.P.Pool.puts c.args.t.0 c.args.rec m.finish c.args.seat.now c.break_promises.new.seat
          c.close_result.new.seat c.slot_swap.new.seat c.put_phase.new.seat c.args.pool.now
          c.break_promises.new.pool m.finished c.promises.ensures.promises c.in_ok-break_promises.ensures.breaks
          c.finish.ensures c.close_result.ensures.log c.slot_swap.ensures.log c.put_phase.ensures.log
          (unnoted e end) (sent_home e end),
      c.in_err-wake.ensures.memory,
    ))

pub returns-clause-home : goal.returns-clause-home
returns-clause-home g c =
    let m = c.requires.may in
    let b = g.B.Body in
    lies_for_good (program_of b.places b.awaits b.left b.asks b.then) c.args.t.0 c.args.rec c.args.seat.now.me.0
    c.live_down.new.seat.me.0 c.ended_records.ensures.lie m (returns-clause-ended g c)

pub returns-in_err-wake-clause-notes : goal.returns-in_err-wake-clause-notes
returns-in_err-wake-clause-notes g c =
    let m = c.requires.may in
    let e = begun c.args.seat.now.me.1 m (c.points_in_rounds.ensures.written m.about.strict m.about.root m.rooted)
    c.names_and_cells.ensures.elements c.promises.ensures.promises c.in_ok-break_promises.ensures.broken
    c.requires.others in
    let end = at_end e c.slot_swap.ensures.me c.close_result.ensures.view c.finish.ensures c.end.ensures
    (c.close_result.ensures.seat.2 ∙ c.break_promises.ensures.seat.2) c.put_phase.ensures.puts in
    notes_woken e end c.in_err-wake.ensures.memory.woke

pub returns-in_err-break_promises-clause-notes : goal.returns-in_err-break_promises-clause-notes
returns-in_err-break_promises-clause-notes g c = c.break_promises.ensures.notes

pub returns-clause-notes : goal.returns-clause-notes
returns-clause-notes g c = (returns-clause-ended g c).knows.notes
