-- What `park` asks of the seat, and what it makes of it.
use Rattle.std.specs.Prelude.{◌≡◌, ℕ, ◌+◌, ◌*◌, ◌≤◌, Bool, List, ◌∷◌, ◌++◌, length, Some}
use Rattle.tj_body.specs.Points.{IsIn}
use Rattle.tj_body.specs.Programs.{Program}
use Rattle.tj_events.specs.declared.walk.Way.{Way}
use Rattle.tj_events.specs.Events.{MaySettle, raised_by_way}
use Rattle.tj_record.specs.declared.record.Rec.{Rec}
use Rattle.tj_words.specs.declared.view.About.{About}
use Rattle.tj_words.specs.declared.view.Found.{Found}
use Rattle.tj_words.specs.declared.view.View.{View}
use Rattle.tj_words.specs.Calls.ChainSteps.{KnowsEntry}
use Rattle.tj_words.specs.SeatViews.KnowsMore.{KnowsMore, HasSameWakes, HasSameHand, HasSameCounts}
use Rattle.tj_words.specs.LawParts.RecordPhases.{WaitsFor}
use Rattle.tj_words.specs.Calls.TakenRecords.{custody_of}
use Rattle.tj_words.specs.SeatViews.TaskLists.{hold, let_go}
use Rattle.tj_words.specs.LawParts.TreeWords.{AreCells}
use Rattle.tj_words.specs.Calls.WaitViews.{HasWalker}
use Rattle.tj_park.specs.declared.parking.Parked.{Parked}
use Rattle.tj_park.specs.declared.parking.Parked.TheVariants as parked
use Rattle.tj_park.specs.Records.{MayGoHome, HasTaken, HasNothingToCome, AlarmsLeave}

-- the most steps of a call: at most N pushes, each with a store before it, and six steps besides
abbrev pub park_steps : ℕ → ℕ
park_steps cells = 2 * cells + 6

module _ {B : Type 0} where
  -- F holds of the record that came back
  abbrev pub IfBack : Parked B → (Rec B → Type 0) → Type 0
  IfBack parked.Left F = Unit {0}
  IfBack (parked.Back r) F = F r

  -- this holds where the task was left
  abbrev pub IfLeft : Parked B → Type 0 → Type 0
  IfLeft parked.Left P = P
  IfLeft (parked.Back r) P = Unit {0}

  -- the seat holds t, whose walk for its wait for q has ended, and of which this is the record; it has room for a
  -- token, and for one more wait cleared
  pub record MayParkTask (program : Bool → B → Program B) (t q : ℕ) (way : Way) (r : Rec B) (v : View B) : Type 0
    where
      pub walks : HasWalker t q way v
      pub settles : MaySettle walks.walker
      pub leaves : MayGoHome program t walks.custody r v
      pub waits : WaitsFor r q
      pub idle : HasNothingToCome v
      pub room : v.cleared + raised_by_way way ≤ v.lot
      pub alarms : AlarmsLeave 0 v

  -- since then the seat has found chains, by loads of a head and by pushes that failed: no more than there are cells
  pub record HasFoundChains (cells : ℕ) (v w : View B) : Type 0 where
    pub chains : List Found
    pub found : w.found ≡ chains ++ v.found
    pub few : length chains ≤ cells

  -- the seat knows more, and has nothing to come; no load was made that is counted. What it knew as the cells of the
  -- table it knows as these still. A push that fails adds a chain to those found, or its cell to those closed, and the
  -- one that succeeds is the one that was to come: so with what was closed since these chains count the pushes
  pub record HasParked (cells : ℕ) (v w : View B) : Type 0 where
    pub knows : KnowsMore v w
    pub all : (a : About B) → v.about ≡ Some a → a.cells ≡ cells → AreCells cells v.born → AreCells cells w.born
    pub hand : HasSameHand v w
    pub wakes : HasSameWakes v w
    pub counts : HasSameCounts v w
    pub plain_loads : w.plain_loads ≡ v.plain_loads
    pub once_loads : w.once_loads ≡ v.once_loads
    pub steps : w.steps ≤ v.steps + park_steps cells
    pub pushes : HasFoundChains cells v w

  -- t has left the seat, and stands in the chain of those who wait for its cell; no head was found shut since, and no
  -- record was taken out of home
  pub record LeftTask (cells t : ℕ) (v w : View B) : Type 0 where
    pub parked : HasParked cells v w
    pub tasks : w.tasks ≡ let_go t v.tasks
    pub closed : w.closed ≡ v.closed
    pub records : w.records ≡ v.records

  -- the head of the chain was found shut, once, so something has become of q; the wait is cleared, and t runs again
  -- with the seat
  pub record GaveBack (program : Bool → B → Program B) (cells t q : ℕ) (r : Rec B) (v w : View B) : Type 0 where
    pub parked : HasParked cells v w
    pub tasks : w.tasks ≡ hold (custody_of r) (let_go t v.tasks)
    pub taken : HasTaken program t r w
    pub waited : WaitsFor r q
    pub shut : IsIn q w.closed
    pub closed : w.closed ≡ q ∷ v.closed
    pub entry : KnowsEntry q w
    -- the seat's steps took one record, which is this one
    pub records : w.records ≡ r ∷ v.records
