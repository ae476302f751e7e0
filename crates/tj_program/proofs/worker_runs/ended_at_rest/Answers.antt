use Rattle.tj_body.specs.Programs.{rules_of}
use Rattle.tj_program.proofs.ClosedRuns.{closed_at_rest}
use Rattle.tj_program.proofs.worker_runs.ended_at_rest.Goals as goal

pub outcome_of-requires : goal.outcome_of-requires
outcome_of-requires g c = (c.type_bounds.send-B, c.requires.meaning)

pub returns : goal.returns
returns g c =
    let t = g.B.Body in
    closed_at_rest (rules_of t.places t.awaits t.left t.asks t.then c.args.rest.strict) c.args.told c.args.rest
    c.in_ok-outcome.outcome _ _ _ c.requires
    c.in_ok-outcome.ensures.outcome (c.in_ok-outcome.ensures.alarmed c.requires.meant_cycles)
    c.in_ok-output.ensures.status c.in_ok-output.ensures.text c.into_closed_at_end.ensures.same
