-- The exchanges of PHASE: a claim, a wake, and the way back of a task that its seat has parked. What each asks of the
-- seat's view, and what it makes of the seat.
use Rattle.std.specs.Prelude.{◌≡◌, ◌≢◌, ◌⊎◌, ℕ, suc, ◌+◌, ◌-◌, ◌<◌, ◌≤◌, List, ◌∷◌, drop, Bool, Option, Some, None}
use Rattle.tj_body.specs.Points.{IsIn}
use Rattle.tj_body.specs.Programs.{Program}
use Rattle.tj_events.specs.declared.walk.Way.{Way}
use Rattle.tj_events.specs.Events.{raised_by_way}
use Rattle.tj_words.specs.declared.phase.Phase.{Phase}
use Rattle.tj_words.specs.declared.phase.Phase.TheVariants.{Ready, Running}
use Rattle.tj_record.specs.declared.record.Rec.{Rec}
use Rattle.tj_words.specs.declared.view.About.{About}
use Rattle.tj_words.specs.declared.view.Noted.TheVariants as note
use Rattle.tj_words.specs.declared.view.Push.{Push}
use Rattle.tj_words.specs.declared.view.Rest.{Rest}
use Rattle.tj_words.specs.declared.view.View.{View}
use Rattle.tj_words.specs.LawParts.Chains.{parked_phase}
use Rattle.tj_words.specs.Calls.ChainSteps.{without_push, rest_of}
use Rattle.tj_words.specs.Words.Codes.{IsPhaseWord}
use Rattle.tj_words.specs.LawParts.LiveCount.{HasAlarmed, Holds, Backing}
use Rattle.tj_words.specs.Words.Phases.{phase_in, phase_word}
use Rattle.tj_words.specs.LawParts.RecordPhases.{WaitsFor}
use Rattle.tj_words.specs.LawParts.PushedRecords.{put_last}
use Rattle.tj_words.specs.SeatViews.SeatSteps.{IsOn, SeatMe, Tells}
use Rattle.tj_words.specs.Calls.TakenRecords.{took_record, TakesRecord}
use Rattle.tj_words.specs.SeatViews.Views.{noted_step, stepped_on}

-- the rest without its first task
abbrev pub without_first : Option Rest → Option Rest
without_first None = None
without_first (Some r) = rest_of r.cell (drop 1 r.tasks)

module _ {B : Type 0} where
  -- the first of the rest was made ready
  abbrev pub woke_first : Way → View B → View B
  woke_first way v = record v {
    steps = suc v.steps;
    tokens = v.tokens - 1;
    cleared = v.cleared + raised_by_way way;
    rest = without_first v.rest;
  }

  -- the task t that the seat had parked goes on, and isn't to be pushed any more
  abbrev pub went_back : ℕ → Way → View B → View B
  went_back t way v = record v {
    steps = suc v.steps;
    tokens = v.tokens - 1;
    cleared = v.cleared + raised_by_way way;
    pushes = without_push t v.pushes;
  }

  -- an exchange of PHASE of t found the phase p, which isn't the one that it was to change
  abbrev pub missed : ℕ → Phase → View B → View B
  missed t p v = noted_step (note.Missed t) (phase_word p) v

  -- the view isn't one that another has taken in
  abbrev pub KnowsTable : View B → Type 0
  KnowsTable v = (a : About B) × (v.about ≡ Some a)

  -- the seat has a token to spend, and room for one more wait cleared
  pub record MayClear (way : Way) (v : View B) : Type 0 where
    pub token : 0 < v.tokens
    pub room : v.cleared + raised_by_way way ≤ v.lot

  -- t is the first of the seat's rest of p, and the seat has read that it waits this way; what is left to come is
  -- backed
  pub record MayWake (t p : ℕ) (way : Way) (v : View B) : Type 0 where
    pub rest : Rest
    pub left : List ℕ
    pub has : v.rest ≡ Some rest
    pub cell : rest.cell ≡ p
    pub first : rest.tasks ≡ t ∷ left
    pub read : rest.way ≡ Some way
    pub clears : MayClear way v
    pub backing : Backing (woke_first way v)

  -- the seat has parked t on p this way, has its push still to come, and knows that the head of p is shut
  pub record MayGoBack (t p : ℕ) (way : Way) (v : View B) : Type 0 where
    pub push : Push
    pub has : IsIn push v.pushes
    pub task : push.task ≡ t
    pub cell : push.cell ≡ p
    pub its_way : push.way ≡ way
    pub shut : IsIn p v.closed
    pub table : KnowsTable v
    pub clears : MayClear way v
    pub alarms : Holds HasAlarmed v → 1 < v.tokens

  -- an exchange from Parked
  abbrev pub MayClearFrom : ℕ → Phase → Phase → View B → Type 0
  MayClearFrom t was to v = (p : ℕ) × (way : Way) × (was ≡ parked_phase p way)
      × (((to ≡ Ready) × MayWake t p way v) ⊎ ((to ≡ Running) × MayGoBack t p way v))

  -- the exchanges that there are: from Ready to Running, and from Parked to Ready or to Running
  abbrev pub MaySwap : ℕ → Phase → Phase → View B → Type 0
  MaySwap t was to v = ((was ≡ Ready) × (to ≡ Running) × KnowsTable v) ⊎ MayClearFrom t was to v

  -- the first of a rest is ready
  abbrev pub Wakes : Way → SeatMe B → SeatMe B → Type 0
  Wakes way m m' = m' ≡ (woke_first way m.0, m.1)

  module _ (program : Bool → B → Program B) (t : ℕ) where
    -- a ready task is the seat's, and its slot with its record
    abbrev pub Claims : SeatMe B → SeatMe B → Type 0
    Claims m m' = (r : Rec B) × (k : TakesRecord program t m.0 r)
        × (m' ≡ (stepped_on (took_record r k.born k.more m.0), (t, Some r) ∷ m.1))

    -- so is one that the seat had parked on p
    abbrev pub GoesBack : ℕ → Way → SeatMe B → SeatMe B → Type 0
    GoesBack p way m m' = (r : Rec B) × (k : TakesRecord program t m.0 r) × WaitsFor r p
        × (m' ≡ (went_back t way (took_record r k.born k.more m.0), (t, Some r) ∷ m.1))

    -- the slot of the task is the seat's, and in it lies the record that the seat put home last of the task
    abbrev pub TakesAsPut : SeatMe B → SeatMe B → Type 0
    TakesAsPut m m' = m'.1 ≡ (t, put_last m.0.put_home t) ∷ m.1

    -- what an exchange that succeeds makes of the seat
    pub record Swaps (was to : Phase) (m m' : SeatMe B) : Type 0 where
      pub claims : was ≡ Ready → Claims m m'
      pub wakes : (p : ℕ) (way : Way) → was ≡ parked_phase p way → to ≡ Ready → Wakes way m m'
      pub goes_back : (p : ℕ) (way : Way) → was ≡ parked_phase p way → to ≡ Running → GoesBack p way m m'
      pub as_put : (p : ℕ) (way : Way) → was ≡ parked_phase p way → to ≡ Running → TakesAsPut m m'

    -- an exchange of PHASE: from Parked it doesn't fail; where it fails, the seat notes it with the number found
    abbrev pub phase_swap : ℕ → Tells B
    phase_swap cells st m n m' = (n ≡ st.first → Swaps (phase_in st.first) (phase_in st.second) m m')
        × (n ≢ st.first → (phase_in st.first ≡ Ready) × (m' ≡ (noted_step (note.Missed t) n m.0, m.1))
        × IsPhaseWord cells n × IsOn (note.Missed t) st)
