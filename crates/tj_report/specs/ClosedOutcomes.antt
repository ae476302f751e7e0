-- Closed words and an outcome: names of cells, and cycles with a task that has alarmed.
use Rattle.std.specs.Prelude.{◌≡◌, ℕ, List}
use Rattle.tj_base.specs.ForkOrder.{Name}
use Rattle.tj_body.specs.Points.{IsIn}
use Rattle.tj_body.specs.declared.point.Reference.{Reference}
use Rattle.tj_mean.specs.declared.outcome.Link.{Link}
use Rattle.tj_mean.specs.declared.outcome.Outcome.{Outcome}
use Rattle.tj_words.specs.AtRest.ClosedCells.{AreNamed, HasAlarmed}
use Rattle.tj_words.specs.LawParts.TreeWords.{IsCell}
use Rattle.tj_words.specs.declared.closed.RestCell.{RestCell}

module _ (shown : List RestCell) where
  -- by PARENT and KID, cell c has this name
  abbrev pub HasName : ℕ → Name → Type 0
  HasName c q = (born : List Reference) × (r : Reference) × AreNamed shown born × IsCell born c r × (r.name ≡ q)

  -- each cycle of the outcome has a member that has alarmed
  abbrev pub AreCyclesOfOutcomeAlarmed : Outcome → Type 0
  AreCyclesOfOutcomeAlarmed o = (links : List Link) → IsIn links o.cycles
      → (l : Link) × (c : ℕ) × IsIn l links × HasName c l.task × HasAlarmed shown c
