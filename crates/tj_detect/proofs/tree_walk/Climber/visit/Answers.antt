use Rattle.tj_detect.proofs.Prelude.{arith, refl}
use Rattle.tj_detect.proofs.Climbs.{look_logs}
use Rattle.tj_detect.proofs.tree_walk.Climber.visit.Goals as goal

pub returns-clause-climbs : goal.returns-clause-climbs
returns-clause-climbs g c =
    let seen = c.see_node-node.ensures in
    record {
      same_seat = refl;
      same_count = refl;
      goes_on = seen.goes_on;
      later = seen.later;
      loads = let x = seen.loads in let y = c.tick.ensures in omega (arith, x, y);
      log = look_logs c.args.task.0 c.see_node-node.result _ _ _ _ (let y = c.tick.ensures in y) seen.log;
    }
