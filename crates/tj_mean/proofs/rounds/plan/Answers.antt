use Rattle.std.proofs.Common.{◌∙◌}
use Rattle.std.proofs.lemmas.List.Sorted.{IsPermutation-sym}
use Rattle.tj_body.specs.Programs.{program_of}
use Rattle.tj_body.specs.Rounds.{meaning}
use Rattle.tj_mean.proofs.Outcomes.ToldBodies.{same_without}
use Rattle.tj_mean.proofs.rounds.plan.Goals as goal

pub told_of-requires-clause-stopped : goal.told_of-requires-clause-stopped
told_of-requires-clause-stopped g c κs within = c.in_ok-rest.ensures.stopped

pub outcome_of-requires : goal.outcome_of-requires
outcome_of-requires g c =
    let r = c.in_ok-rest.ensures.rest in
    c.meaning_is_apart.ensures c.args.strict c.args.root.now c.requires.root c.args.cells r.0
    c.in_ok-tasks.tasks.items r.1 (same_without r.0 c.in_ok-rest.rest.points.items r.2 ∙ c.in_ok-tasks.ensures)

pub returns-clause-outcome : goal.returns-clause-outcome
returns-clause-outcome g c =
    let b = g.B.Body in
    let r = c.in_ok-rest.ensures.rest in
    let told = same_without r.0 c.in_ok-rest.rest.points.items r.2 ∙ c.in_ok-tasks.ensures in
    let ps = meaning (program_of b.places b.awaits b.left b.asks b.then c.args.strict c.args.root.now) c.args.cells in
    c.order_is_free.ensures r.0 ps c.in_ok-outcome_of.field-0 (IsPermutation-sym ps r.0 r.1)
    (c.in_ok-tasks.tasks.items, told, c.in_ok-outcome_of.ensures)

pub returns-clause-waits : goal.returns-clause-waits
returns-clause-waits g c =
    c.outcome_has_cycle_where_waits.ensures c.args.strict c.args.root.now c.requires.root
    c.args.cells c.in_ok-rest.ensures.fits c.in_ok-outcome_of.field-0 (returns-clause-outcome g c)
