use Rattle.tj_trace.proofs.Prelude.{subst, sym, map}
use Rattle.tj_mean.specs.Outcomes.{AreApart}
use Rattle.tj_trace.proofs.EndedLines.{lines_apart, told_outcome}
use Rattle.tj_trace.proofs.ended.outcome_of_lines.Goals as goal

pub outcome_of-requires : goal.outcome_of-requires
outcome_of-requires c =
    let r = c.requires in subst AreApart (sym c.in_ok-tasks.ensures) (lines_apart r.0 r.1 c.args.lines.now r.2)

pub returns : goal.returns
returns c = told_outcome c.args.lines.now c.in_ok-tasks.tasks.items c.outcome_of.result c.in_ok-tasks.ensures
    c.outcome_of.ensures
