use Rattle.tj_run.proofs.Prelude.{IsAsked, MayShelve, program_of, subst, sym, table_program}
use Rattle.tj_table_tests.proofs.OwnWaits.{IsToGet, gets_cell, gets_may, gets_shelved, gets_slot, gets_task}
use Rattle.tj_table_tests.proofs.OwnWaits.{inside_gotten}
use Rattle.tj_table_tests.proofs.by_hand.Rig.get_and_alarm.Given.{Over}
use Rattle.tj_table_tests.proofs.by_hand.Rig.get_and_alarm.Goals as goal
use Rattle.tj_table_tests.proofs.by_hand.Rig.get_and_alarm.Goals.{In-Get}

-- the task has asked to get the promise at the place
to_get : (g : Over) (c : In-Get g)
    → let b = g.B.Body in
    IsToGet (program_of b.places b.awaits b.left b.asks b.then) c.args.self.now.laid c.ask-rec.result.0 c.in-Get.p
    c.args.seat.now.me
to_get g c = let b = g.B.Body in let l = c.args.self.now.laid in record {
  runs = c.ask-rec.ensures.runs;
  asked = subst (IsAsked (table_program (program_of b.places b.awaits b.left b.asks b.then) l) c.args.seat.now.me.0
      c.ask-rec.result.0) c.in-Get.is c.ask-rec.ensures.asked;
  law = c.points_in_rounds.ensures.ask l.strict l.root.value c.ask-rec.ensures.asked.rooted;
}

pub at-h-requires : goal.at-h-requires
at-h-requires g c = inside_gotten (to_get g (goal.at.at-h-requires g c).In-Get)

pub block_at-verdict-requires-clause-task : goal.block_at-verdict-requires-clause-task
block_at-verdict-requires-clause-task g c κs within =
    gets_task (to_get g (goal.at.block_at-verdict-requires-clause-task g c).In-Get)
    c.at-h.result c.at-h.ensures c.in-Promise.is

pub block_at-verdict-requires-clause-cell : goal.block_at-verdict-requires-clause-cell
block_at-verdict-requires-clause-cell g c κs within =
    gets_cell (to_get g (goal.at.block_at-verdict-requires-clause-cell g c).In-Get)
    c.at-h.result c.at-h.ensures c.in-Promise.is

pub block_at-verdict-requires-clause-may : goal.block_at-verdict-requires-clause-may
block_at-verdict-requires-clause-may g c κs within =
    gets_may (to_get g (goal.at.block_at-verdict-requires-clause-may g c).In-Get)
    c.at-h.result c.at-h.ensures c.in-Promise.is

pub shelve-requires-clause-slot : goal.shelve-requires-clause-slot
shelve-requires-clause-slot g c κs within = let k = c.block_at-verdict in
    rw c.cell-t.ensures (gets_slot (to_get g (goal.at.shelve-requires-clause-slot g c).In-Get)
    c.at-h.result c.at-h.ensures c.in-Promise.is
    k.new.seat.me k.ensures.seat.2)

pub shelve-requires-clause-may : goal.shelve-requires-clause-may
shelve-requires-clause-may g c κs within = let k = c.block_at-verdict in
    let b = g.B.Body in
    rw c.cell-t.ensures
    (subst (λ r. MayShelve (program_of b.places b.awaits b.left b.asks b.then) c.ask-rec.result.0.cell.0 r
    k.new.seat.me.0) (sym k.ensures.rec)
    (gets_shelved (to_get g (goal.at.shelve-requires-clause-may g c).In-Get)
    c.at-h.result c.at-h.ensures c.in-Promise.is
    k.new.seat.me k.ensures.seat.2 k.result c.in-Alarm.is k.ensures.view))
