use Rattle.tj_report.proofs.Prelude.{program_of}
use Rattle.tj_mean.proofs.Outcomes.ToldOutcomes.{apart_in_order, outcome_in_order}
use Rattle.tj_report.proofs.ClosedOutcomes.{if_ok, told_apart, told_outcome, told_alarmed}
use Rattle.tj_report.proofs.closed_outcome.outcome_of.Goals as goal

pub outcome_of-requires : goal.outcome_of-requires
outcome_of-requires g c = let b = g.B.Body in
    apart_in_order c.in_ok-told.told.items c.in_ok-tasks.tasks.items c.in_ok-tasks.ensures
    (told_apart (program_of b.places b.awaits b.left b.asks b.then c.args.rest.now.strict c.args.rest.now.root)
    c.args.rest.now.limit c.in_ok-told.told.items c.in_ok-told.ensures)

pub returns-clause-outcome : goal.returns-clause-outcome
returns-clause-outcome g c = let b = g.B.Body in
    if_ok c.outcome_of.result
    (λ o k. told_outcome
    (program_of b.places b.awaits b.left b.asks b.then c.args.rest.now.strict c.args.rest.now.root)
    c.args.rest.now.limit c.in_ok-told.told.items c.in_ok-told.ensures o
    (outcome_in_order c.in_ok-told.told.items c.in_ok-tasks.tasks.items c.in_ok-tasks.ensures o k))
    c.outcome_of.ensures

pub returns-clause-alarmed : goal.returns-clause-alarmed
returns-clause-alarmed g c = let b = g.B.Body in λ alarmed.
    if_ok c.outcome_of.result
    (λ o k. told_alarmed
    (program_of b.places b.awaits b.left b.asks b.then c.args.rest.now.strict c.args.rest.now.root)
    c.args.rest.now.limit c.in_ok-told.told.items c.in_ok-told.ensures o
    (outcome_in_order c.in_ok-told.told.items c.in_ok-tasks.tasks.items c.in_ok-tasks.ensures o k)
    c.args.rest.now.cells c.requires.0 c.requires.1 alarmed)
    c.outcome_of.ensures
