use Rattle.tj_body.specs.Programs.{program_of}
use Rattle.tj_embed.proofs.RestNames.{meaning_named, values_named}
use Rattle.tj_embed.proofs.body_run.run_to_rest.Goals as goal

pub returns-clause-meaning : goal.returns-clause-meaning
returns-clause-meaning g c = let t = g.B.Body in
    meaning_named (program_of t.places t.awaits t.left t.asks t.then) c.args.root c.args.options.cells
    c.args.options.strict c.in_ok-at_rest.at_rest c.in_ok-at_rest.ensures.rest

pub returns-clause-values : goal.returns-clause-values
returns-clause-values g c = let t = g.B.Body in
    values_named (program_of t.places t.awaits t.left t.asks t.then) c.args.root c.args.options.cells
    c.args.options.strict c.in_ok-at_rest.at_rest c.in_ok-at_rest.ensures.rest
