-- What the stores of a wait into PHASE need of the seat, and what they make of it: the wait is published, the walker
-- alarms, or the task is parked.
use Rattle.std.specs.Prelude.{◌≡◌, ◌≢◌, ℕ, suc, ◌<◌, Bool, ◌∷◌, Some, None}
use Rattle.atomic_table.specs.Table.{rest}
use Rattle.tj_body.specs.Points.{IsIn}
use Rattle.tj_body.specs.Programs.{Program}
use Rattle.tj_events.specs.declared.walk.Way.{Way}
use Rattle.tj_events.specs.declared.walk.Walker.{Walker}
use Rattle.tj_events.specs.declared.walk.LastRead.TheVariants.{SawOwner}
use Rattle.tj_events.specs.Events.{start_walk, MaySettle}
use Rattle.tj_words.specs.declared.phase.Phase.{Phase}
use Rattle.tj_words.specs.declared.phase.Phase.TheVariants as phase
use Rattle.tj_words.specs.declared.phase.Walk.{Walk}
use Rattle.tj_words.specs.declared.phase.Walk.TheVariants as walk
use Rattle.tj_record.specs.declared.record.Rec.{Rec}
use Rattle.tj_words.specs.declared.view.Custody.{Custody}
use Rattle.tj_words.specs.declared.view.Does.{Does}
use Rattle.tj_words.specs.declared.view.Does.TheVariants as does
use Rattle.tj_words.specs.declared.view.Hand.{Hand}
use Rattle.tj_words.specs.declared.view.View.{View}
use Rattle.tj_words.specs.LawParts.Holding.{held_in}
use Rattle.tj_words.specs.LawParts.LiveCount.{HasWakeToCome}
use Rattle.tj_words.specs.Calls.LiveViews.{homed}
use Rattle.tj_words.specs.Calls.ParkSteps.{new_push}
use Rattle.tj_words.specs.Words.Phases.{phase_in}
use Rattle.tj_words.specs.Calls.PutRecords.{PutsHome}
use Rattle.tj_words.specs.LawParts.RecordPhases.{WaitsFor}
use Rattle.tj_words.specs.SeatViews.SeatSteps.{SeatMe, Tells}
use Rattle.tj_words.specs.LawParts.ShownState.{does_walk}
use Rattle.tj_words.specs.SeatViews.TaskLists.{let_go, noted}
use Rattle.tj_words.specs.Steps.WalkSteps.{MayWait, way_by}

module _ {B : Type 0} where
  -- the task does this from now on
  abbrev pub now_does : Does → Custody B → Custody B
  now_does d k = record k { does = d }

  -- the task has alarmed, at the end of its walk
  abbrev pub now_alarmed : ℕ → Way → Custody B → Custody B
  now_alarmed p way k = record k { does = does.Alarmed p way (does_walk k.does) }

  -- t walks from now on, for its wait for p
  abbrev pub published : ℕ → ℕ → Way → View B → View B
  published t p way v =
      record v { steps = suc v.steps; tasks = noted t (now_does (does.Walking p way start_walk)) v.tasks }

  -- t has alarmed, which gives a token
  abbrev pub alarmed : ℕ → ℕ → Way → View B → View B
  alarmed t p way v = record v {
    steps = suc v.steps;
    tokens = suc v.tokens;
    tasks = noted t (now_alarmed p way) v.tasks;
  }

  -- t is parked, which gives a token; its push is to come
  abbrev pub parked : ℕ → ℕ → Way → View B → View B
  parked t p way v = record v {
    steps = suc v.steps;
    tokens = suc v.tokens;
    tasks = let_go t v.tasks;
    pushes = new_push t p way ∷ v.pushes;
  }

  -- a running task of the seat, which has its result, may wait for a known cell, with the way that the order gives; a
  -- seat with a wake to come has a token
  pub record MayPublishWait (t p : ℕ) (way : Way) (v : View B) : Type 0 where
    pub custody : Custody B
    pub held : held_in v.tasks t ≡ Some custody
    pub out : custody.home ≡ None
    pub may : MayWait way custody.does
    pub result : IsIn t custody.owned
    pub task_known : IsIn t v.known
    pub cell_known : IsIn p v.known
    pub its_way : way ≡ way_by v.born t p
    pub wakes : HasWakeToCome v → 0 < v.tokens

  -- the seat holds t, which walks for its wait for p, and its lot has room for a token
  pub record HasWalker (t p : ℕ) (way : Way) (v : View B) : Type 0 where
    pub custody : Custody B
    pub walker : Walker
    pub held : held_in v.tasks t ≡ Some custody
    pub walks : custody.does ≡ does.Walking p way walker
    pub room : v.tokens < v.lot

  -- the walker has read its own task as owner
  pub record MayStoreAlarm (t p : ℕ) (way : Way) (v : View B) : Type 0 where
    pub walks : HasWalker t p way v
    pub out : walks.custody.home ≡ None
    pub last : walks.walker.last ≡ SawOwner (Some t)

  -- the walker is at the end of its walk, and its task's record, which waits for p, was put into its slot
  pub record MayPark (program : Bool → B → Program B) (t p : ℕ) (way : Way) (me : SeatMe B) : Type 0 where
    pub walks : HasWalker t p way me.0
    pub settles : MaySettle walks.walker
    pub no_hand : (h : Hand) → me.0.hand ≡ Some h → h.maker ≢ t
    pub record_of : Rec B
    pub puts : PutsHome program t walks.custody record_of me
    pub unfinished : record_of.finish ≡ None
    pub waits : WaitsFor record_of p

  -- what the store of a wait needs of the seat
  abbrev pub MayPutWait : (Bool → B → Program B) → ℕ → ℕ → Way → Walk → SeatMe B → Type 0
  MayPutWait program t p way walk.Walking me = MayPublishWait t p way me.0
  MayPutWait program t p way walk.Parked me = MayPark program t p way me
  MayPutWait program t p way walk.Alarmed me = MayStoreAlarm t p way me.0

  -- what it makes of the seat: where the task is parked, its slot is given back, and the record in it is home
  abbrev pub PutsWait : ℕ → ℕ → Way → Walk → SeatMe B → SeatMe B → Type 0
  PutsWait t p way walk.Walking me me' = me' ≡ (published t p way me.0, me.1)
  PutsWait t p way walk.Parked me me' = me' ≡ (homed me.1 (parked t p way me.0), rest me.1)
  PutsWait t p way walk.Alarmed me me' = me' ≡ (alarmed t p way me.0, me.1)

  -- what the store of this phase makes of the seat, where it is a wait
  abbrev pub PutsIfWait : ℕ → Phase → SeatMe B → SeatMe B → Type 0
  PutsIfWait t phase.Unborn me me' = Unit {0}
  PutsIfWait t phase.Ready me me' = Unit {0}
  PutsIfWait t phase.Running me me' = Unit {0}
  PutsIfWait t phase.Ended me me' = Unit {0}
  PutsIfWait t phase.Promise me me' = Unit {0}
  PutsIfWait t (phase.Waiting c way w) me me' = PutsWait t c.0 way w me me'

  -- the store of a wait
  abbrev pub wait_store : ℕ → Tells B
  wait_store t st m n m' = PutsIfWait t (phase_in st.first) m m'
