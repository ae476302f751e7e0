use Rattle.tj_run.proofs.Prelude.{arith}
use Rattle.tj_table_tests.proofs.sets.a_task_wakes_another_one_of_its_seat.Goals as goal

pub to_fork-root-requires-clause-begins : goal.to_fork-root-requires-clause-begins
to_fork-root-requires-clause-begins g c κs = record {
  free = c.table_of-rig.ensures.free;
  there = (let e = c.table_of-rig.ensures.cells in omega arith);
  rooted = c.table_of-rig.ensures.rooted;
}
