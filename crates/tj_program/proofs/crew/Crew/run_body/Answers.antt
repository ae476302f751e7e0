use Rattle.tj_program.proofs.Prelude.{crosses, program_of, sendable}
use Rattle.tj_modes.specs.Runs.{started}
use Rattle.tj_modes.proofs.Outputs.{if_ok}
use Rattle.tj_program.proofs.ClosedRuns.{IsRunGiven-unrested, given_named, rests_named}
use Rattle.tj_program.proofs.crew.Crew.run_body.Goals as goal

pub ended_at_rest-requires : goal.ended_at_rest-requires
ended_at_rest-requires g c = let t = g.B.Body in (
  search (sendable, crosses) depth 40,
  rests_named (program_of t.places t.awaits t.left t.asks t.then) c.args.root c.args.cells c.args.strict
      c.in-Ok.rest c.in-Ok.ensures.rest,
)

pub returns-in-Ok : goal.returns-in-Ok
returns-in-Ok g c = let t = g.B.Body in
    if_ok c.ended_at_rest.result (λ given is.
    given_named (program_of t.places t.awaits t.left t.asks t.then) c.args.told c.args.root c.args.cells c.args.strict
    c.in-Ok.rest _ _ _ c.in-Ok.ensures.rest is) c.ended_at_rest.ensures

pub returns-in-Err : goal.returns-in-Err
returns-in-Err g c = let t = g.B.Body in
    if_ok c.unrested.result (λ given is. IsRunGiven-unrested c.args.told
    (started (program_of t.places t.awaits t.left t.asks t.then) c.args.strict c.args.cells c.args.root) _ _ _
    (c.in-Err.ensures.full is.0) is.1 is.2 is.3) c.unrested.ensures
