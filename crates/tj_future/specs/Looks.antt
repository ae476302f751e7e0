-- What one look at a cell tells: of the cell, of STOP and of LIVE, in the order in which they were loaded.
use Rattle.std.specs.Prelude.{◌≡◌, ◌⊎◌, ℕ, ◌<◌, Bool, List, Some}
use mathlib.Core.Option.{some}
use lib.ListN.{get_elem?}
use Rattle.tj_body.specs.Programs.{Program}
use Rattle.tj_cells.specs.declared.seen.Seen.{Seen}
use Rattle.tj_cells.specs.declared.seen.Seen.TheVariants as seen
use Rattle.tj_cells.specs.SeenValues.{SeesValue, seen_in}
use Rattle.tj_record.specs.declared.record.Fill.TheVariants as fill
use Rattle.tj_words.specs.declared.table.Key.{Key}
use Rattle.tj_words.specs.declared.view.View.{View}
use Rattle.tj_words.specs.SeatViews.KnowsMore.{KnowsMore}
use Rattle.tj_words.specs.CallLaws.RestedRuns.{AreMoments, Ruled, last_moment, tag_at}
use Rattle.tj_words.specs.SeatViews.SeenWords.{FindsNothing}
use Rattle.tj_words.specs.SeatViews.Views.{saw_live, saw_rest, saw_stop}
use Rattle.tj_run.specs.declared.why.Why.{Why}
use Rattle.tj_run.specs.Leaving.{IsTold, stop_word}
use Rattle.tj_future.specs.declared.watched.Watched.{Watched}
use Rattle.tj_future.specs.declared.watched.Watched.TheVariants as watched

-- what is told of a cell that was seen like this where nothing goes on any more
abbrev pub told_as : Seen → Watched
told_as (seen.Num i) = watched.Value (fill.Num i)
told_as (seen.Promise c) = watched.Value (fill.Promise c)
told_as (seen.Task c) = watched.Value (fill.Task c)
told_as seen.Broken = watched.Broken
told_as seen.NotYet = watched.Rested

module _ {B : Type 0} (program : Bool → B → Program B) where
  -- TAG of the cell was loaded as 0, and then STOP as this word
  pub record LoadsStop (p word : ℕ) (v w : View B) : Type 0 where
    pub looked : View B
    pub nothing : FindsNothing p v looked
    pub view : w ≡ saw_stop word looked

  -- TAG of the cell was loaded as 0, then STOP as 0, and then LIVE as 0
  pub record ComesToRest (p : ℕ) (v w : View B) : Type 0 where
    pub open_still : View B
    pub not_stopped : LoadsStop p 0 v open_still
    pub view : w ≡ saw_rest open_still

  -- TAG of the cell was loaded as 0, then STOP as 0, and then LIVE above 0
  pub record GoesOn (p : ℕ) (v w : View B) : Type 0 where
    pub open_still : View B
    pub not_stopped : LoadsStop p 0 v open_still
    pub live : ℕ
    pub above : 0 < live
    pub view : w ≡ saw_live live open_still

  -- where a table has a seat with this view, and TAG of the cell is 0, no step call fills the cell any more, nor does a
  -- split or a merge of seats
  abbrev pub IsNeverFilled : ℕ → View B → Type 0
  IsNeverFilled p v = (key : Key B) (u : Ruled program key) (later : List (Ruled program key)) (id : ℕ)
      → get_elem? u.now.views id ≡ some v
      → tag_at u.now p ≡ 0
      → AreMoments program key u later
      → tag_at (last_moment program key u later).now p ≡ 0

  -- LIVE was loaded as 0, and after that TAG of the cell as 0, by a seat that shows that the cell is never filled then
  pub record RestsWithout (p : ℕ) (v w : View B) : Type 0 where
    pub at_rest : View B
    pub comes : ComesToRest p v at_rest
    pub nothing : FindsNothing p at_rest w
    pub for_good : IsNeverFilled p at_rest

  module _ (cells p : ℕ) where
    -- the words of the cell say this for good; they were read at once, or after LIVE was loaded as 0
    abbrev pub Finds : Seen → View B → View B → Type 0
    Finds s v w = SeesValue program cells p s v w
        ⊎ ((at_rest : View B) × ComesToRest p v at_rest × SeesValue program cells p s at_rest w)

    -- STOP was loaded as the word that says why; it is full only where the meaning is
    abbrev pub FindsStopped : Why → View B → View B → Type 0
    FindsStopped why v w = LoadsStop p (stop_word why) v w × IsTold program why v

    -- what one look that was answered like this has found
    abbrev pub Answers : Watched → View B → View B → Type 0
    Answers (watched.Value f) v w = Finds (seen_in (Some f)) v w
    Answers watched.Broken v w = Finds seen.Broken v w
    Answers watched.Rested v w = RestsWithout p v w
    Answers (watched.Stopped why) v w = FindsStopped why v w

    -- looks were made, and the last of them was answered like this
    abbrev pub IsWatched : Watched → View B → View B → Type 0
    IsWatched answer v w = (last : View B) × KnowsMore v last × Answers answer last w
