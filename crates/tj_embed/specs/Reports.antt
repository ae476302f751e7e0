-- The report of a body that was run.
use Rattle.std.specs.Prelude.{◌≡◌, ℕ}
use Rattle.tj_body.specs.Programs.{Program}
use Rattle.tj_body.specs.Rounds.{meaning}
use Rattle.tj_mean.specs.Outcomes.{IsOutcome, is_marked}
use Rattle.tj_mean.specs.ReportTexts.{report}
use Rattle.tj_mean.specs.declared.outcome.Outcome.{Outcome}
use Rattle.tj_report.specs.declared.rest_report.RestReport.{RestReport}

-- the text is the report, line by line, of an outcome of the meaning, and is marked where that is
pub record IsReportOfMeaning {B : Type 0} (program : Program B) (N : ℕ) (given : RestReport) : Type 0 where
  pub outcome : Outcome
  pub is_outcome : IsOutcome (meaning program N) outcome
  pub text : given.text.items ≡ report outcome
  pub marked : given.marked ≡ is_marked outcome
