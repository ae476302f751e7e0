use Rattle.std.proofs.Common.{ap, sym, ◌∙◌, subst}
use Rattle.tj_trace.specs.Inner.Quiet.{AreQuiet, quiet_of}
use Rattle.tj_trace.specs.Logs.{logged_program}
use Rattle.tj_trace.proofs.QuietTasks.{rounds_quiet}
use Rattle.tj_trace.proofs.full.most_of_script.Goals as goal

-- the script's quiet declarations are so
pub most_in_all-requires-clause-quiet : goal.most_in_all-requires-clause-quiet
most_in_all-requires-clause-quiet c =
    subst (AreQuiet (logged_program c.args.strict c.args.root.now))
    (sym (c.as_slice.ensures.value ∙ c.in_ok-quiet.ensures ∙ ap quiet_of (sym c.requires.script)))
    (rounds_quiet c.args.strict c.args.root.now c.requires.root c.requires.right)
