use Rattle.std.proofs.Common.{◌≡◌, ◌++◌, map, drop}
use Rattle.tj_syntax.specs.View as trees
use Rattle.tj_findings.specs.Scenes.{statements_of, view_table}
use Rattle.tj_findings.proofs.statements.statements_of.Given as goal

-- what the table has and what is left are the script's
abbrev pub invariant-loop-task : goal.invariant-loop-task
invariant-loop-task l =
    view_table (map (λ d. map (λ q. q.now) d.items) l.table.items)
    ++ statements_of (map trees.task (drop l.task-index l.script.tasks.items))
    ≡ statements_of (trees.script l.script)
