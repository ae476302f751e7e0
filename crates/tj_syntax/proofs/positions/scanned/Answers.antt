-- The tasks that were found, with those that are left to find, are the same at each token.
use Rattle.std.proofs.Common.{map}
use Rattle.tj_syntax.specs.PlacesOf.{view_task}
use Rattle.tj_syntax.proofs.Starting.Read.{tasks_step}
use Rattle.tj_syntax.proofs.positions.scanned.Goals as goal

pub loop-at-preserved : goal.loop-at-preserved
loop-at-preserved c =
    tasks_step c.args.tokens.now c.loop-at.at (map view_task c.loop-at.tasks.items)
    (map view_task c.add_task.new.tasks.items) _ c.loop-at-test.true c.in_ok-add_task.ensures c.loop-at.invariant
