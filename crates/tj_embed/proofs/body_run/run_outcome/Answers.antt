use Rattle.tj_body.specs.Programs.{program_of}
use Rattle.tj_embed.proofs.Outcomes.{outcome_named}
use Rattle.tj_embed.proofs.body_run.run_outcome.Goals as goal

pub returns-clause-outcome : goal.returns-clause-outcome
returns-clause-outcome g c = let t = g.B.Body in
    outcome_named (program_of t.places t.awaits t.left t.asks t.then) c.args.root c.args.options.cells
    c.args.options.strict c.in_ok-rest.rest c.in_ok-outcome.outcome c.in_ok-rest.ensures.rest
    c.in_ok-outcome.ensures.outcome
