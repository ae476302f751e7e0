-- The report of what a table names is that of what it was made for.
use Rattle.std.proofs.Common.{ℕ, Bool}
use Rattle.tj_body.specs.Programs.{Program}
use Rattle.tj_report.specs.RestReports.{IsReportOf}
use Rattle.tj_report.specs.declared.rest_report.RestReport.{RestReport}
use Rattle.tj_run.specs.Runs.{RestsAt}
use Rattle.tj_words.specs.AtRest.RestShown.{RestShown}
use Rattle.tj_embed.specs.Reports.{IsReportOfMeaning}
use Rattle.tj_embed.proofs.Outcomes.{outcome_named}

-- a report by the names of the table is one by the root, the limit and the rule that were given
pub report_named : {B : Type 0} (program : Bool → B → Program B) (root : B) (limit : ℕ) (strict : Bool) (r : RestShown B)
    (given : RestReport) → RestsAt program root limit strict r
    → IsReportOf (program r.strict r.root) r.limit r.cells given.text.items given.marked
    → IsReportOfMeaning (program strict root) limit given
report_named program root limit strict r given h is = record {
  outcome = is.outcome;
  is_outcome = outcome_named program root limit strict r is.outcome h is.is_outcome;
  text = is.text_is;
  marked = is.marked_is;
}
