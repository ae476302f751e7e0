use Rattle.tj_run.proofs.Prelude.{IsFree, arith, subst, sym}
use Rattle.tj_run.proofs.Seats.FreeSeats.{free_left, free_right}
use Rattle.tj_table_tests.proofs.TestRuns.{all_large, may_split}
use Rattle.tj_table_tests.proofs.joins.a_join_of_a_started_child_is_skipped.Goals as goal

pub split-first-requires-clause-room : goal.split-first-requires-clause-room
split-first-requires-clause-room g c κs =
    let l = c.table_of-rig.result.0.laid in let m = c.table_of-rig.result.1.me in
    may_split l m c.table_of-rig.ensures.free c.table_of-rig.ensures.lot

pub join_started-verdict-requires-clause-begins : goal.join_started-verdict-requires-clause-begins
join_started-verdict-requires-clause-begins g c κs =
    let l = c.table_of-rig.result.0.laid in let m = c.table_of-rig.result.1.me in record {
      free = subst (IsFree l) (sym c.split-first.ensures.view)
          (free_left l m (all_large l m c.table_of-rig.ensures.lot) c.table_of-rig.ensures.free);
      there = (let e = c.table_of-rig.ensures.cells in omega arith);
      rooted = c.table_of-rig.ensures.rooted;
    }

pub join_started-verdict-requires-clause-other_begins : goal.join_started-verdict-requires-clause-other_begins
join_started-verdict-requires-clause-other_begins g c κs =
    let l = c.table_of-rig.result.0.laid in let m = c.table_of-rig.result.1.me in record {
      free = subst (IsFree l) (sym c.split-first.ensures.other_view)
          (free_right l m c.table_of-rig.ensures.free);
      there = (let e = c.table_of-rig.ensures.cells in omega arith);
      rooted = c.table_of-rig.ensures.rooted;
    }
