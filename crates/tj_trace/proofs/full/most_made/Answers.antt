use Rattle.tj_trace.specs.Logs.{logged_program}
use Rattle.tj_trace.proofs.QuietTasks.{none_quiet}
use Rattle.tj_trace.proofs.full.most_made.Goals as goal

-- no declaration is told
pub most_in_all-requires-clause-quiet : goal.most_in_all-requires-clause-quiet
most_in_all-requires-clause-quiet c = none_quiet (logged_program c.args.strict c.args.root.now)
