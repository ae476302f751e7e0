use Rattle.tj_run.proofs.Prelude.{program_of, table_program}
use Rattle.tj_table_tests.proofs.TwoTasks.{running_on}
use Rattle.tj_table_tests.proofs.by_hand.Rig.join_beside.Goals as goal

pub park_beside-requires-clause-begins : goal.park_beside-requires-clause-begins
park_beside-requires-clause-begins g c κs within = record {
  runs = c.requires.runs.runs;
  there = c.requires.child;
  rooted = c.requires.runs.running.rooted;
}

pub joins-requires-clause-runs : goal.joins-requires-clause-runs
joins-requires-clause-runs g c κs within = let b = g.B.Body in record {
  runs = c.park_beside.ensures.runs;
  running = running_on (table_program (program_of b.places b.awaits b.left b.asks b.then) c.args.self.now.laid)
      c.args.seat.now.me.0 c.park_beside.new.seat.me.0 c.park_beside.ensures.knows c.args.rec c.requires.runs.running;
}
