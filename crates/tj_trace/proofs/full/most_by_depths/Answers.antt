use Rattle.tj_trace.specs.Logs.{logged_program}
use Rattle.tj_trace.proofs.QuietTasks.{none_quiet}
use Rattle.tj_trace.proofs.full.most_by_depths.Goals as goal

-- no declaration is told
pub most_in_depths-requires-clause-quiet : goal.most_in_depths-requires-clause-quiet
most_in_depths-requires-clause-quiet c = none_quiet (logged_program c.args.strict c.args.root.now)
