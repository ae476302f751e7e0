-- A report that is written from closed words and records.
use Rattle.std.specs.Prelude.{◌≡◌, ℕ, Bool, List}
use Rattle.tj_body.specs.Programs.{Program}
use Rattle.tj_body.specs.Rounds.{meaning}
use Rattle.tj_mean.specs.Outcomes.{IsOutcome, is_marked}
use Rattle.tj_mean.specs.declared.outcome.Outcome.{Outcome}
use Rattle.tj_words.specs.AtRest.RestMeaning.{AreCyclesOfMeaningAlarmed}
use Rattle.tj_words.specs.declared.closed.RestCell.{RestCell}
use Rattle.tj_report.specs.ClosedOutcomes.{AreCyclesOfOutcomeAlarmed}
use Rattle.tj_mean.specs.ReportTexts.{report}

-- The text is the report of an outcome of the meaning, and is marked as that is. Each cycle of this outcome has a
-- member that has alarmed where each cycle of the meaning has one.
pub record IsReportOf {B : Type 0} (program : Program B) (N : ℕ) (shown : List RestCell) (text : List ℕ)
    (marked : Bool) : Type 0 where
  pub outcome : Outcome
  pub is_outcome : IsOutcome (meaning program N) outcome
  pub alarmed : AreCyclesOfMeaningAlarmed program N shown → AreCyclesOfOutcomeAlarmed shown outcome
  pub text_is : text ≡ report outcome
  pub marked_is : marked ≡ is_marked outcome
