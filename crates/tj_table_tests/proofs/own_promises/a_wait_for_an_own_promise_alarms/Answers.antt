use Rattle.tj_run.proofs.Prelude.{arith}
use Rattle.tj_table_tests.proofs.own_promises.a_wait_for_an_own_promise_alarms.Goals as goal

pub begin-root-requires-clause-begins : goal.begin-root-requires-clause-begins
begin-root-requires-clause-begins g c κs = record {
  free = c.table_of-rig.ensures.free;
  there = (let e = c.table_of-rig.ensures.cells in omega arith);
  rooted = c.table_of-rig.ensures.rooted;
}
