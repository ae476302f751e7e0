use Rattle.std.proofs.Common.{◌≡◌, ◌++◌, map, drop}
use Rattle.tj_syntax.specs.View as view
use Rattle.tj_trace.specs.Inner.Quiet.{quiet_of}
use Rattle.tj_trace.proofs.quiet.quiet_tasks.Given as goal

-- what was told and what is left are the script's
abbrev pub invariant-loop-task : goal.invariant-loop-task
invariant-loop-task l =
    l.quiet.items ++ quiet_of (map view.task (drop l.task-index l.script.tasks.items)) ≡ quiet_of (view.script l.script)
