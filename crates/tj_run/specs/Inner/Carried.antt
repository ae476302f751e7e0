-- What a worker carries from step to step within a turn: what its seat knows and has, the record of the task that it
-- runs, and a point of the task's history that the record tells.
use Rattle.std.specs.Prelude.{◌≡◌, ℕ, ◌+◌, ◌^◌, ◌<◌, Bool, [], ◌∷◌, length, Some, None}
use Rattle.tj_body.specs.Asks.{IsPlaced}
use Rattle.tj_body.specs.History.{reference, after_close}
use Rattle.tj_body.specs.Points.{IsIn}
use Rattle.tj_body.specs.Programs.{Program}
use Rattle.tj_body.specs.RoundPoints.{IsOfRounds}
use Rattle.tj_body.specs.declared.ask.Answer.{Answer}
use Rattle.tj_body.specs.declared.ask.Ask.{Ask}
use Rattle.tj_body.specs.declared.point.Close.{Close}
use Rattle.tj_body.specs.declared.point.Point.{Point}
use Rattle.tj_body.specs.declared.point.PointStage.TheVariants as stage
use Rattle.tj_record.specs.declared.record.Finish.{Finish}
use Rattle.tj_record.specs.declared.record.Rec.{Rec}
use Rattle.tj_words.specs.declared.table.Laid.{Laid}
use Rattle.tj_words.specs.declared.view.Custody.{Custody}
use Rattle.tj_words.specs.declared.view.View.{View}
use Rattle.tj_words.specs.SeatViews.KnownEntries.{HasSeen}
use Rattle.tj_words.specs.Law.{IsRooted}
use Rattle.tj_words.specs.Words.Lists.{All, AreApart}
use Rattle.tj_words.specs.LawParts.Meaning.{StandsIn}
use Rattle.tj_words.specs.LawParts.NamedCells.{finish_cells}
use Rattle.tj_words.specs.SeatViews.SeatSteps.{SeatMe}
use Rattle.tj_words.specs.Steps.StepEvents.{MayAct}
use Rattle.tj_words.specs.LawParts.Telling.{FinishSays, Tells}
pub use Rattle.tj_park.specs.Endings.{IsOpen, result_of}
use Rattle.tj_park.specs.Records.{HasRecord}
use Rattle.tj_run.specs.Workers.{IsWorkers}

module _ {B : Type 0} where
  -- within a turn it has the task of the record, which runs, and nothing else; the task owns its result, and no cell
  -- twice
  -- the point of the task is the proof's alone: a record goes home, and others who claim it know of some point
  pub record RunsTask (laid : Laid B) (r : Rec B) (me : SeatMe B) : Type 0 where
    pub worker : IsWorkers laid me.0
    pub custody : Custody B
    pub tasks : me.0.tasks ≡ custody ∷ []
    pub slots : me.1 ≡ (r.cell.0, None) ∷ []
    pub task : custody.task ≡ r.cell.0
    pub runs : MayAct custody.does
    pub out : custody.home ≡ None
    pub has : HasRecord r.cell.0 custody r me.0
    pub result : IsIn r.cell.0 custody.owned
    pub owned_apart : AreApart custody.owned

  module _ (program : Program B) (v : View B) where
    -- what the seat knows shows that the point stands in the table: it is of some round, what it made is there, and
    -- what it wrote has become so
    abbrev pub Stands : Point B → Type 0
    Stands p = StandsIn program v.born (HasSeen v.filled) p

    -- the record tells a point at which its body is to be given the record's answer
    pub record IsRunning (r : Rec B) : Type 0 where
      pub rooted : IsRooted program
      pub point : Point B
      pub at_stage : point.stage ≡ stage.Answered r.answer
      pub unfinished : r.finish ≡ None
      pub tells : Tells v.born r point
      pub stands : Stands point

    -- the body has given the ask, of which the record has nothing yet; there is room for a place more
    pub record IsAsked (r : Rec B) (ask : Ask B) : Type 0 where
      pub rooted : IsRooted program
      pub point : Point B
      pub given : Answer
      pub at_stage : point.stage ≡ stage.Answered given
      pub is : ask ≡ program.rules.asks point.body given
      pub unfinished : r.finish ≡ None
      pub tells : Tells v.born r (record point { body = program.rules.then point.body given })
      pub stands : Stands point
      pub placed : IsPlaced program.rules.places program.rules.awaits program.rules.left (length r.held) ask
      pub room : length r.held + 1 < 2 ^ 31
      pub few : r.made + 1 < 2 ^ 31

    -- the record tells a point that waits for the cell at place k, but for its answer
    pub record IsWaiting (r : Rec B) (k : ℕ) (spare : Bool) : Type 0 where
      pub rooted : IsRooted program
      pub point : Point B
      pub at_stage : point.stage ≡ stage.Waits (reference point k).name spare
      pub inside : k < length point.references
      pub unfinished : r.finish ≡ None
      pub tells : Tells v.born r point
      pub stands : Stands point
      pub room : length r.held + 1 < 2 ^ 31

    -- the record tells a point from which its task is to end like this, but for its ending and for the body, which has
    -- given its last ask
    pub record IsClosing (r : Rec B) (f : Finish) : Type 0 where
      pub rooted : IsRooted program
      pub point : Point B
      pub body : B
      pub ending : Close
      pub is_open : IsOpen point.stage
      pub unfinished : r.finish ≡ None
      pub tells : Tells v.born r (record point { body = body })
      pub stands : Stands point
      pub says : FinishSays v.born f ending
      pub knows : All (λ c. IsIn c v.known) (finish_cells (Some f))
      pub ends : IsOfRounds program (after_close ending (result_of ending) (record point { body = body }))
