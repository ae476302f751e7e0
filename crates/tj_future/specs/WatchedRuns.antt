-- What is given by workers with a watch of a cell beside them: what the watch was answered, the seat that has taken in
-- that of the watch, and the run that ends with it.
use Rattle.std.specs.Prelude.{◌≡◌, ◌≢◌, ℕ, Bool, []}
use Rattle.tj_body.specs.Points.{IsIn}
use Rattle.tj_body.specs.Programs.{Program}
use Rattle.tj_cells.specs.CallLogs.{Seat}
use Rattle.tj_words.specs.AtRest.EndedRuns.{RestEndsRun}
use Rattle.tj_words.specs.AtRest.RestShown.{RestShown}
use Rattle.tj_words.specs.declared.view.View.{View}
use Rattle.tj_words.specs.LawParts.FirstState.{first_view}
use Rattle.tj_words.specs.SeatViews.Views.{both, right_half}
use Rattle.tj_run.specs.declared.why.Left.{Left}
use Rattle.tj_run.specs.declared.why.Left.TheVariants as leaving
use Rattle.tj_run.specs.declared.why.Why.{Why}
use Rattle.tj_future.specs.declared.watched.Watched.{Watched}
use Rattle.tj_future.specs.declared.watched.Watched.TheVariants as watched
use Rattle.tj_future.specs.LookLogs.{MakesLooks}
use Rattle.tj_future.specs.Looks.{IsWatched}

module _ {B : Type 0} where
  -- a seat that began with the half of this view, and with no step, was given back by looks at cell p, and by no other
  -- step; the last look was answered like this
  pub record IsWatch (program : Bool → B → Program B) (cells p : ℕ) (answer : Watched) (v : View B) (given : Seat B)
      : Type 0 where
    pub begun : Seat B
    pub view : begun.me ≡ (right_half v, [])
    pub fresh : (begun.log ≡ []) × (begun.took ≡ [])
    pub watched : IsWatched program cells p answer (right_half v) given.me.0
    pub looks : MakesLooks p answer begun given

  -- the seat has taken in this one, with its log
  abbrev pub HasTaken : Seat B → Seat B → Type 0
  HasTaken given now = (mine : View B) × (now.me ≡ (both mine given.me.0, [])) × IsIn given.log now.took

  -- a watch of cell p, which began with the half of this view, was answered like this; where the workers are at rest,
  -- the answer isn't that the run was stopped, and the seat has taken in that of the watch
  pub record HasWatched (program : Bool → B → Program B) (cells p : ℕ) (answer : Watched) (how : Left) (v : View B)
      (now : Seat B) : Type 0 where
    pub given : Seat B
    pub watch : IsWatch program cells p answer v given
    pub runs_on : how ≡ leaving.Rested → (why : Why) → answer ≢ watched.Stopped why
    pub taken : how ≡ leaving.Rested → HasTaken given now

  -- these words and records are the end of a run of the table of this root, from its first state on, whose last seat
  -- has taken in the watch's, which began with a half of the first seat, and whose last look at cell p was answered
  -- like this
  pub data EndsWatched (program : Bool → B → Program B) (limit : ℕ) (strict : Bool) (root : B) (p : ℕ)
      (answer : Watched) (r : RestShown B) : Type 0 where
    ended : (seat given : Seat B)
        → RestEndsRun program limit strict root seat r
        → IsWatch program limit p answer (first_view limit root strict) given
        → HasTaken given seat
        → EndsWatched program limit strict root p answer r
