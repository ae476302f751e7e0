-- How a task ends: what `finish` asks of the record, of the point of the task's history that it tells and of the seat,
-- and what it makes of the seat.
use Rattle.std.specs.Prelude.{◌≡◌, ℕ, ◌+◌, ◌<◌, ◌∷◌, Bool, List, drop, Some, None}
use Rattle.tj_base.specs.declared.cell.CellId.{CellId}
use Rattle.tj_body.specs.History.{after_close}
use Rattle.tj_body.specs.Points.{IsIn}
use Rattle.tj_body.specs.Programs.{Program}
use Rattle.tj_body.specs.RoundPoints.{IsOfRounds}
use Rattle.tj_body.specs.declared.point.Close.{Close}
use Rattle.tj_body.specs.declared.point.Close.TheVariants as close
use Rattle.tj_body.specs.declared.point.Entry.{Entry}
use Rattle.tj_body.specs.declared.point.Entry.TheVariants as entry
use Rattle.tj_body.specs.declared.point.Point.{Point}
use Rattle.tj_body.specs.declared.point.PointStage.{PointStage}
use Rattle.tj_body.specs.declared.point.PointStage.TheVariants as stage
use Rattle.tj_body.specs.declared.point.Reference.{Reference}
use Rattle.tj_record.specs.declared.record.Finish.{Finish}
use Rattle.tj_record.specs.declared.record.Rec.{Rec}
use Rattle.tj_record.specs.TaskRecords.{ended_record}
use Rattle.tj_words.specs.declared.view.About.{About}
use Rattle.tj_words.specs.declared.view.Custody.{Custody}
use Rattle.tj_words.specs.declared.view.View.{View}
use Rattle.tj_words.specs.LawParts.Holding.{held_in}
use Rattle.tj_words.specs.Law.{IsRooted}
use Rattle.tj_words.specs.SeatViews.KnownEntries.{HasSeen}
use Rattle.tj_words.specs.SeatViews.KnowsMore.{KnowsMore, HasSameWakes, HasSameHand, HasSameCounts}
use Rattle.tj_words.specs.Words.Lists.{All, AreApart}
use Rattle.tj_words.specs.LawParts.Meaning.{StandsIn}
use Rattle.tj_words.specs.Steps.StepEvents.{MayAct}
use Rattle.tj_words.specs.SeatViews.TaskLists.{let_go}
use Rattle.tj_words.specs.LawParts.Telling.{FinishSays, Tells}
use Rattle.tj_words.specs.LawParts.TreeWords.{IsCell}
use Rattle.tj_park.specs.Records.{AlarmsLeave, HasNothingToCome, HasRecord}

-- what becomes of the result of a task that ends like this
abbrev pub result_of : Close → Entry
result_of (close.Done v) = entry.Value v
result_of (close.Failed why) = entry.Broken

-- the task has not ended
abbrev pub IsOpen : PointStage → Type 0
IsOpen (stage.Answered a) = Unit {0}
IsOpen (stage.Waits q spare) = Unit {0}
IsOpen (stage.Closed e) = ⊥

-- no two cells have one name
abbrev pub HaveApartNames : List Reference → Type 0
HaveApartNames born = (c d : ℕ) (x y : Reference) → IsCell born c x → IsCell born d y → x.name ≡ y.name → c ≡ d

module _ {B : Type 0} where
  -- the record tells, but for its ending, a point at which the body has given its last ask; the task is to end there as
  -- the record says, and the point at which it has ended is one of some round
  pub record IsEnding (program : Program B) (f : Finish) (r : Rec B) (v : View B) : Type 0 where
    pub point : Point B
    pub body : B
    pub ending : Close
    pub unended : IsOpen point.stage
    pub tells : Tells v.born r (record point { body = body })
    pub stands : StandsIn program v.born (HasSeen v.filled) point
    pub says : FinishSays v.born f ending
    pub ends : IsOfRounds program (after_close ending (result_of ending) (record point { body = body }))

  -- the seat holds t, which runs, and of which this is the record, with its ending; the task owns its result, and no
  -- cell twice; the seat has nothing to come, and room for two tokens and for a wait cleared
  pub record MayFinish (program : Bool → B → Program B) (t : ℕ) (r : Rec B) (v : View B) : Type 0 where
    pub about : About B
    pub is_about : v.about ≡ Some about
    pub custody : Custody B
    pub held : held_in v.tasks t ≡ Some custody
    pub runs : MayAct custody.does
    pub out : custody.home ≡ None
    pub has : HasRecord t custody r v
    pub result : IsIn t custody.owned
    pub owned_apart : AreApart custody.owned
    pub finish : Finish
    pub finished : r.finish ≡ Some finish
    pub names_apart : HaveApartNames v.born
    pub rooted : IsRooted (program about.strict about.root)
    pub ending : IsEnding (program about.strict about.root) finish r v
    pub idle : HasNothingToCome v
    pub token_room : v.tokens + 1 < v.lot
    pub cleared_room : v.cleared < v.lot
    pub alarms : AlarmsLeave 0 v

  -- each promise that the task owed is broken, and its result is what the ending says; the task has left the seat,
  -- which knows of no other cells, and has nothing to come, as before
  pub record HasFinished (t : ℕ) (r : Rec B) (v w : View B) : Type 0 where
    pub knows : KnowsMore v w
    pub born : w.born ≡ v.born
    pub tasks : w.tasks ≡ let_go t v.tasks
    pub hand : HasSameHand v w
    pub wakes : HasSameWakes v w
    pub counts : HasSameCounts v w
    pub broken : All (λ (c : CellId). HasSeen w.filled c.0 entry.Broken) (drop 1 r.owned)
    pub finish : Finish
    pub finished : r.finish ≡ Some finish
    pub ending : Close
    pub says : FinishSays v.born finish ending
    pub result : HasSeen w.filled t (result_of ending)
    -- the seat's steps put one record home, which is this one, its task having ended
    pub put_home : w.put_home ≡ ended_record r ∷ v.put_home
