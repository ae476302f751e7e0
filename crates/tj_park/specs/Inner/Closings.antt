-- The closing of the result of a task that ends, after its promises are broken, and its record then.
use Rattle.std.specs.Prelude.{◌≡◌, [], Bool, ℕ, Option, Some, None}
use Rattle.tj_body.specs.Points.{IsIn}
use Rattle.tj_body.specs.Programs.{Program}
use Rattle.tj_body.specs.declared.point.Close.{Close}
use Rattle.tj_record.specs.declared.record.Finish.{Finish}
use Rattle.tj_words.specs.declared.view.About.{About}
use Rattle.tj_words.specs.declared.view.View.{View}
use Rattle.tj_words.specs.SeatViews.KnownEntries.{IsToBecome}
use Rattle.tj_words.specs.Words.Lists.{All}
use Rattle.tj_words.specs.LawParts.NamedCells.{finish_cells}
use Rattle.tj_words.specs.LawParts.Telling.{FinishSays}
use Rattle.tj_cells.specs.FilledCells.{became}
use Rattle.tj_cells.specs.CallLogs.{MakesClosed, Seat}
use Rattle.tj_park.specs.EndLogs.{closed_with}
use Rattle.tj_park.specs.Endings.{result_of}
use Rattle.tj_park.specs.Inner.Breaks.{OwnsStill}

module _ {B : Type 0} where
  -- the seat may close the result of t, which owns nothing else, by this ending
  pub record MayCloseResult (program : Bool → B → Program B) (t : ℕ) (finish : Option Finish) (v : View B) : Type 0
    where
      pub about : About B
      pub is_about : v.about ≡ Some about
      pub owns : OwnsStill t [] v
      pub no_hand : v.hand ≡ None
      pub ending_of : Finish
      pub is : finish ≡ Some ending_of
      pub ending : Close
      pub says : FinishSays v.born ending_of ending
      pub knows : All (λ c. IsIn c v.known) (finish_cells finish)
      pub becomes : IsToBecome (program about.strict about.root) v.born t (result_of ending)

  -- the result of t is closed by the ending
  abbrev pub ClosesResult : ℕ → Option Finish → View B → View B → Type 0
  ClosesResult t finish v w = (f : Finish) (ending : Close) → finish ≡ Some f → FinishSays v.born f ending
      → w ≡ became t t (result_of ending) v

  -- these are the steps of that
  abbrev pub StepsOfClose : ℕ → Option Finish → Seat B → Seat B → Type 0
  StepsOfClose t finish old new = (f : Finish) → finish ≡ Some f → MakesClosed t (closed_with f) old new
