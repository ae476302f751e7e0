use Rattle.std.proofs.Common.{◌≡◌, ◌++◌, map, drop}
use Rattle.std.specs.Prelude.{flat_map}
use Rattle.tj_syntax.specs.Listing.{text_of, task, names_of, listing}
use Rattle.tj_syntax.specs.View as view
use Rattle.tj_syntax.proofs.listing.script_text.Given as goal

-- the text so far and that of the tasks to come are the whole script's
abbrev pub invariant-loop-task : goal.invariant-loop-task
invariant-loop-task l =
    l.text.items ++ text_of (flat_map (task (names_of (map view.task l.tasks)))
    (map view.task (drop l.task-index l.tasks)))
    ≡ listing (map view.task l.tasks)
