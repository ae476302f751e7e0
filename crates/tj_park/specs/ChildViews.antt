-- What `release`, `claim` and `shelve` ask of the seat, and what they make of it.
use Rattle.std.specs.Prelude.{◌≡◌, ◌≢◌, ℕ, suc, ◌-◌, ◌<◌, ◌∷◌, Bool, Some}
use Rattle.tj_body.specs.Programs.{Program}
use Rattle.tj_body.specs.declared.ask.Answer.TheVariants as answer
use Rattle.tj_events.specs.declared.walk.Way.{Way}
use Rattle.tj_events.specs.declared.walk.Walker.{Walker}
use Rattle.tj_record.specs.declared.record.Rec.{Rec}
use Rattle.tj_words.specs.declared.view.Custody.{Custody}
use Rattle.tj_words.specs.declared.view.Does.TheVariants as does
use Rattle.tj_words.specs.declared.view.Hand.{Hand}
use Rattle.tj_words.specs.declared.view.View.{View}
use Rattle.tj_words.specs.LawParts.Holding.{held_in}
use Rattle.tj_words.specs.SeatViews.KnowsMore.{KnowsMore, HasSameWakes, HasSameHand, HasSameCounts}
use Rattle.tj_words.specs.LawParts.LiveCount.{IsBacked}
use Rattle.tj_words.specs.Calls.LiveViews.{now_home, without_task}
use Rattle.tj_words.specs.LawParts.RecordPhases.{WaitsFor}
use Rattle.tj_words.specs.Calls.TakenRecords.{custody_of}
use Rattle.tj_words.specs.SeatViews.TaskLists.{hold, let_go, noted}
use Rattle.tj_park.specs.Records.{MayGoHome, HasTaken, HasNothingToCome, AlarmsLeave}

module _ {B : Type 0} where
  -- the seat holds t, an unborn child, of which this is the record at its start; it has a token or a running task, and
  -- room for a token
  pub record MayReleaseChild (program : Bool → B → Program B) (t : ℕ) (r : Rec B) (v : View B) : Type 0 where
    pub custody : Custody B
    pub held : held_in v.tasks t ≡ Some custody
    pub unborn : custody.does ≡ does.Unborn
    pub no_hand : (h : Hand) → v.hand ≡ Some h → h.maker ≢ t
    pub leaves : MayGoHome program t custody r v
    pub starts : r.answer ≡ answer.Start
    pub backed : IsBacked v
    pub room : v.tokens < v.lot
    pub alarms : AlarmsLeave 0 v

  -- the record of the child lies at home, and the seat holds the child still; it took a token for it, in one step
  abbrev pub child_home : ℕ → Rec B → View B → View B
  child_home t r v = record v {
    steps = suc v.steps;
    tokens = suc v.tokens;
    tasks = noted t (now_home r) v.tasks;
    put_home = r ∷ v.put_home;
  }

  -- the child is ready and has left the seat, which put this record home, in two steps; the token that was taken for it
  -- is spent
  abbrev pub released_child : ℕ → Rec B → View B → View B
  released_child t r v =
      record v { steps = suc (suc v.steps); tasks = let_go t v.tasks; put_home = r ∷ v.put_home }

  -- the seat has claimed t, in one step, and holds it besides
  pub record Claimed (program : Bool → B → Program B) (t : ℕ) (r : Rec B) (v w : View B) : Type 0 where
    pub taken : HasTaken program t r w
    pub tasks : w.tasks ≡ hold (custody_of r) v.tasks
    pub knows : KnowsMore v w
    pub hand : HasSameHand v w
    pub wakes : HasSameWakes v w
    pub counts : HasSameCounts v w
    pub steps : w.steps ≡ suc v.steps
    pub plain_loads : w.plain_loads ≡ v.plain_loads
    pub once_loads : w.once_loads ≡ v.once_loads
    -- the seat's step took this record
    pub records : w.records ≡ r ∷ v.records
    pub put_home : w.put_home ≡ v.put_home

  -- the seat holds t, which has alarmed, of which this is the record, which waits for its cell; it has a token, and one
  -- more where it holds another task that has alarmed
  pub record MayShelve (program : Bool → B → Program B) (t : ℕ) (r : Rec B) (v : View B) : Type 0 where
    pub custody : Custody B
    pub held : held_in v.tasks t ≡ Some custody
    pub cell : ℕ
    pub way : Way
    pub walker : Walker
    pub alarmed : custody.does ≡ does.Alarmed cell way walker
    pub leaves : MayGoHome program t custody r v
    pub waits : WaitsFor r cell
    pub idle : HasNothingToCome v
    pub token : 0 < v.tokens
    pub alarms : AlarmsLeave 1 (without_task t v)

  -- the task has left the seat, which put this record home, in one step, for good; a token is given up
  abbrev pub shelved : ℕ → Rec B → View B → View B
  shelved t r v = record v {
    steps = suc v.steps;
    tokens = v.tokens - 1;
    tasks = let_go t v.tasks;
    put_home = r ∷ v.put_home;
  }
