use Rattle.tj_run.proofs.Prelude.{arith}
use Rattle.tj_table_tests.proofs.sets.a_promise_is_set_by_the_seat_that_is_to_park.Goals as goal

pub set_between-seen-requires-clause-begins : goal.set_between-seen-requires-clause-begins
set_between-seen-requires-clause-begins g c κs = record {
  free = c.table_of-rig.ensures.free;
  there = (let e = c.table_of-rig.ensures.cells in omega arith);
  rooted = c.table_of-rig.ensures.rooted;
}
