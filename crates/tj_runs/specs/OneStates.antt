-- That the core state which is shown at a moment is one: whatever the law has beside the words, the makers, numbers and
-- names of cells are those that words and hands tell.
use Rattle.std.specs.Prelude.{◌≡◌, ℕ}
use Rattle.tj_body.specs.Programs.{Program}
use Rattle.tj_words.specs.LawParts.Contents.{Contents, core_shown}
use Rattle.tj_words.specs.Law.{Law}
use Rattle.tj_words.specs.Steps.QuietSteps.{LoadsOnly}

-- a moment: the contents of a table of so many cells, under the law
pub record Moment (B : Type 0) : Type 0 where
  pub program : Program B
  pub cells : ℕ
  pub now : Contents B
  pub law : Law program cells now

-- two laws of the same contents show the same state
abbrev pub OneStateIsShown : Type 0 → Type 0
OneStateIsShown B = (m : Moment B) (r : Law m.program m.cells m.now)
    → core_shown m.cells r.born r.maker m.now ≡ core_shown m.cells m.law.born m.law.maker m.now

-- an exchange of what lies in a slot that a seat has shows nothing: the state is as it was, also by whatever else the
-- law has beside the words then
abbrev pub SlotStepsShow : Type 0 → Type 0
SlotStepsShow B = (m : Moment B) (y : Contents B) → LoadsOnly m.now y
    → (core_shown m.cells m.law.born m.law.maker y ≡ core_shown m.cells m.law.born m.law.maker m.now)
    × ((r : Law m.program m.cells y)
    → core_shown m.cells r.born r.maker y ≡ core_shown m.cells m.law.born m.law.maker m.now)
