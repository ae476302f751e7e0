-- That what a look at the result of a task was answered stands for good: once the table is at rest, the record of the
-- task says it.
use Rattle.std.specs.Prelude.{◌≡◌, ◌≢◌, ℕ, Bool, List, Some}
use mathlib.Core.Option.{some}
use lib.ListN.{get_elem?}
use Rattle.tj_body.specs.Programs.{Program}
use Rattle.tj_record.specs.declared.record.Rec.{Rec}
use Rattle.tj_words.specs.declared.table.Key.{Key}
use Rattle.tj_words.specs.declared.view.View.{View}
use Rattle.tj_words.specs.AtRest.RestingSeats.{MayRest}
use Rattle.tj_words.specs.CallLaws.CallRuns.{AreAskedMoments}
use Rattle.tj_words.specs.CallLaws.RestedRuns.{Ruled, last_moment, tag_at}
use Rattle.tj_words.specs.LawParts.Contents.{contents_of, home_of}
use Rattle.tj_run.specs.declared.why.Why.{Why}
use Rattle.tj_future.specs.declared.watched.Watched.{Watched}
use Rattle.tj_future.specs.declared.watched.Watched.TheVariants as watched
use Rattle.tj_future.specs.Looks.{IsWatched}
use Rattle.tj_future.specs.RootWatches.{watched_of}

-- At some moment of a run a seat has the view that looks at this cell left, the last of which was answered like this;
-- where that is Rested, TAG of the cell is 0 then. Whatever calls, splits and merges follow: where a seat may close the
-- table, and the cell is the result of a task, the answer is what the record of the task says. A look that found STOP
-- tells nothing of the cell.
abbrev pub LooksStand : Type 0 → Type 0
LooksStand B = (program : Bool → B → Program B) (key : Key B) (u : Ruled program key)
    (later : List (Ruled program key)) → AreAskedMoments program key u later → (id p : ℕ) (v w : View B)
    (answer : Watched) → get_elem? u.now.views id ≡ some w → IsWatched program key.cells p answer v w
    → (answer ≡ watched.Rested → tag_at u.now p ≡ 0)
    → ((why : Why) → answer ≢ watched.Stopped why)
    → (other : ℕ) (last : View B) → get_elem? (last_moment program key u later).now.views other ≡ some last
    → MayRest last
    → (r : Rec B) → home_of (contents_of (last_moment program key u later).now) p ≡ Some r
    → answer ≡ watched_of r.finish
