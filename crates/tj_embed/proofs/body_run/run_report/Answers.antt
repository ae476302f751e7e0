use Rattle.tj_body.specs.Programs.{program_of}
use Rattle.tj_embed.proofs.Reports.{report_named}
use Rattle.tj_embed.proofs.body_run.run_report.Goals as goal

pub returns-clause-report : goal.returns-clause-report
returns-clause-report g c = let t = g.B.Body in
    report_named (program_of t.places t.awaits t.left t.asks t.then) c.args.root c.args.options.cells
    c.args.options.strict c.in_ok-table.table c.in_ok-report.report c.in_ok-table.ensures.rest c.in_ok-report.ensures
