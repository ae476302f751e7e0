use Rattle.std.proofs.Common.{◌≡◌, drop, map, ◌++◌}
use Rattle.tj_syntax.specs.Faults.{kinds_of}
use Rattle.tj_syntax.specs.PlacesOf.{view_task, task_place}
use Rattle.tj_syntax.specs.Inner.Scan.{tasks_from}
use Rattle.tj_syntax.proofs.positions.scanned.Given as goal

abbrev pub invariant-loop-at : goal.invariant-loop-at
invariant-loop-at l = map view_task l.tasks.items
    ++ map (task_place l.tokens) (tasks_from l.at (kinds_of (drop l.at l.tokens)))
    ≡ map (task_place l.tokens) (tasks_from 0 (kinds_of l.tokens))
