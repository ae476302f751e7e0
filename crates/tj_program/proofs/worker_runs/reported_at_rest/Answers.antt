use Rattle.tj_body.specs.Programs.{rules_of}
use Rattle.tj_program.proofs.Prelude.{Report, ap, status_of, ◌∙◌}
use Rattle.tj_program.proofs.ClosedRuns.{closed_at_rest}
use Rattle.tj_program.proofs.worker_runs.reported_at_rest.Goals as goal

pub report_at_rest-requires : goal.report_at_rest-requires
report_at_rest-requires g c = (c.type_bounds.send-B, c.requires.meaning)

pub returns : goal.returns
returns g c =
    let t = g.B.Body in
    let x = c.in_ok-report.ensures in
    closed_at_rest (rules_of t.places t.awaits t.left t.asks t.then c.args.rest.strict) Report c.args.rest x.outcome
    _ _ _ c.requires x.is_outcome (x.alarmed c.requires.meant_cycles)
    (c.status_of.ensures ∙ ap status_of x.marked_is) x.text_is c.into_closed_at_end.ensures.same
