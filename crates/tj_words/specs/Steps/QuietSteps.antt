-- What a claimed task does first, and a step that changes no word and nothing that seats hold.
use Rattle.std.specs.Prelude.{◌≡◌}
use Rattle.tj_body.specs.declared.ask.Answer.{Answer}
use Rattle.tj_words.specs.declared.view.Does.{Does}
use Rattle.tj_words.specs.LawParts.Contents.{Contents}
use Rattle.tj_body.specs.declared.ask.Answer.TheVariants as answer
use Rattle.tj_words.specs.declared.view.Does.TheVariants as does

-- what a task does first that was ready with this answer
abbrev pub does_first : Answer → Does
does_first answer.Start = does.Fresh
does_first (answer.Local k) = does.Running
does_first answer.Done = does.Running
does_first (answer.Num i) = does.Running
does_first (answer.RefAt k) = does.Running
does_first answer.Lost = does.Running

module _ {B : Type 0} (x y : Contents B) where
  -- the slots, and what the seats hold and have cleared, are as they were
  pub record KeepsHoldings : Type 0 where
    pub slots : y.slots ≡ x.slots
    pub hands : y.seats.hands ≡ x.seats.hands
    pub tasks : y.seats.tasks ≡ x.seats.tasks
    pub cleared : y.seats.cleared ≡ x.seats.cleared

  -- an exchange of what lies in a slot that a seat has
  pub record LoadsOnly : Type 0 where
    pub words : y.words ≡ x.words
    pub keeps : KeepsHoldings
