-- What a turn comes to.
use Rattle.std.specs.Prelude.{Bool, Option, Some, None}
use Rattle.tj_body.specs.Programs.{Program}
use Rattle.tj_words.specs.declared.table.Laid.{Laid}
use Rattle.tj_words.specs.declared.view.View.{View}
use Rattle.tj_words.specs.SeatViews.SeatSteps.{SeatMe}
use Rattle.tj_run.specs.declared.why.Left.{Left}
use Rattle.tj_run.specs.Leaving.{Leaves}
use Rattle.tj_run.specs.Inner.Waits.{IsLeft}

module _ {B : Type 0} where
  -- the worker goes on, and has no task; or it leaves like this
  abbrev pub TurnsTo : (Bool → B → Program B) → Laid B → Option Left → View B → SeatMe B → Type 0
  TurnsTo program laid None v me = IsLeft laid v me
  TurnsTo program laid (Some how) v me = Leaves program how v me
