-- Each cycle of an outcome has a member that has alarmed by the closed words.
use Rattle.std.proofs.Common.{ℕ, List}
use Rattle.std.proofs.lemmas.List.Sorted.{IsPermutation-refl}
use Rattle.tj_body.specs.Programs.{Program}
use Rattle.tj_body.specs.Rounds.{meaning}
use Rattle.tj_mean.specs.Outcomes.{IsOutcome}
use Rattle.tj_mean.specs.declared.outcome.Outcome.{Outcome}
use Rattle.tj_report.proofs.ClosedOutcomes.{told_alarmed}
use Rattle.tj_report.specs.ClosedOutcomes.{AreCyclesOfOutcomeAlarmed}
use Rattle.tj_words.specs.AtRest.RestMeaning.{AreCyclesOfMeaningAlarmed, HaveWords}
use Rattle.tj_words.specs.declared.closed.RestCell.{RestCell}

-- where each cycle of the meaning has one
pub outcome_alarmed : {B : Type 0} (program : Program B) (N : ℕ) (shown : List RestCell) → HaveWords program N shown
    → AreCyclesOfMeaningAlarmed program N shown → (o : Outcome) → IsOutcome (meaning program N) o
    → AreCyclesOfOutcomeAlarmed shown o
outcome_alarmed program N shown w alarmed o is =
    told_alarmed program N is.0 (meaning program N, IsPermutation-refl (meaning program N), is.1) o is.2 shown w.0 w.1
    alarmed
