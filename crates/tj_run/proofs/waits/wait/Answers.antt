use Rattle.tj_run.proofs.Prelude.{CellId, GaveBack, LeftTask, None, ap, no_some, program_of, refl, rest, shelved, subst}
use Rattle.tj_run.proofs.Prelude.{◌∙◌, ◌∷◌}
use Rattle.tj_run.proofs.Waiting.BlockedTasks.{blocked_others, blocked_slot, comes_back, leaves_parked, leaves_shelved}
use Rattle.tj_run.proofs.Waiting.BlockedTasks.{may_be_parked, may_be_shelved}
use Rattle.tj_run.proofs.Waiting.WaitConditions.{quiet_either}
use Rattle.tj_run.proofs.waits.wait.Goals as goal
use Rattle.tj_cells.proofs.CallLogs.{grows_by, grows_on}
use Rattle.tj_run.proofs.Seats.LogGrowth.{park_grows, return_grows}
use Rattle.std.proofs.Common.{[]}

pub shelve-requires-clause-slot : goal.shelve-requires-clause-slot
shelve-requires-clause-slot g c κs within = let x = c.block_at-way in
    rw c.cell-t.ensures (blocked_slot x.ensures.blocked)

pub shelve-requires-clause-may : goal.shelve-requires-clause-may
shelve-requires-clause-may g c κs within = let x = c.block_at-way in
    rw c.cell-t.ensures (may_be_shelved x.ensures.blocked c.in-Alarm.is)

pub park-requires-clause-slot : goal.park-requires-clause-slot
park-requires-clause-slot g c κs within = let x = c.block_at-way in
    rw c.cell-t.ensures (blocked_slot x.ensures.blocked)

pub park-requires-clause-others : goal.park-requires-clause-others
park-requires-clause-others g c κs within = let x = c.block_at-way in
    blocked_others x.ensures.blocked

pub park-requires-clause-may : goal.park-requires-clause-may
park-requires-clause-may g c κs within = let x = c.block_at-way in
    rw c.cell-t.ensures (may_be_parked x.ensures.blocked (quiet_either x.result.2 c.in-Walked.is))

pub returns-in-Alarm-clause-left : goal.returns-in-Alarm-clause-left
returns-in-Alarm-clause-left g c = let x = c.block_at-way in
    λ e. leaves_shelved x.ensures.blocked c.in-Alarm.is c.shelve.new.seat.me
    (c.shelve.ensures.me
    ∙ ap (λ (t : CellId). (shelved t.0 x.new.rec x.new.seat.me.0, rest x.new.seat.me.1)) c.cell-t.ensures)

pub returns-in-Left : goal.returns-in-Left
returns-in-Left g c = let x = c.block_at-way in record {
  table = c.park.ensures.table ∙ x.ensures.table;
  left = λ e. leaves_parked x.ensures.blocked (quiet_either x.result.2 c.in-Walked.is)
      c.park.new.seat.me (subst (λ (t : CellId). LeftTask c.args.laid.now.cells t.0 x.new.seat.me.0
      c.park.new.seat.me.0) c.cell-t.ensures c.in-Left.ensures.left) c.in-Left.ensures.left_slot;
  back = tt;
  log = grows_on c.args.seat.now x.new.seat c.park.new.seat x.ensures.log (park_grows c.cell-t.result.0 x.result.0.0
      x.result.1 x.new.seat c.park.new.seat c.in-Left.ensures.left_log);
  same = tt;
}

pub returns-in-Back : goal.returns-in-Back
returns-in-Back g c = let x = c.block_at-way in let b = g.B.Body in record {
  table = c.park.ensures.table ∙ x.ensures.table;
  left = λ e. no_some e refl;
  back = comes_back x.ensures.blocked (quiet_either x.result.2 c.in-Walked.is)
      c.park.new.seat.me c.in-Back.rec (subst (λ (t : CellId). GaveBack (program_of b.places b.awaits b.left b.asks
      b.then) c.args.laid.now.cells t.0 x.result.0.0 c.in-Back.rec x.new.seat.me.0 c.park.new.seat.me.0)
      c.cell-t.ensures c.in-Back.ensures.back)
      (c.in-Back.ensures.back_slot ∙ ap (λ (t : CellId). (t.0, None) ∷ rest x.new.seat.me.1) c.cell-t.ensures);
  log = grows_on c.args.seat.now x.new.seat c.park.new.seat x.ensures.log (return_grows c.cell-t.result.0
      x.result.0.0 x.result.1 x.new.seat c.park.new.seat c.in-Back.ensures.back_log);
  same = c.in-Back.ensures.same ∙ x.ensures.kept;
}

pub returns-in-Alarm-clause-log : goal.returns-in-Alarm-clause-log
returns-in-Alarm-clause-log g c = let x = c.block_at-way in
    grows_on c.args.seat.now x.new.seat c.shelve.new.seat x.ensures.log
    (grows_by x.new.seat c.shelve.new.seat (_ ∷ []) c.shelve.ensures.log.1)
