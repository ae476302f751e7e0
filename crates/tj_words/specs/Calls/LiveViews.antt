-- What the steps on LIVE and STOP, and the stores of Ready and of Ended, need of the seat, and what they make of it.
-- The slot that the seat took last may have a record that was put in: it comes home at the step.
use Rattle.std.specs.Prelude.{◌≡◌, ◌≢◌, ℕ, suc, ◌-◌, ◌<◌, Bool, List, [], ◌∷◌, Option, Some, None}
use Rattle.atomic_table.specs.Table.{rest}
use Rattle.tj_events.specs.declared.walk.Way.{Way}
use Rattle.tj_events.specs.declared.walk.Walker.{Walker}
use Rattle.tj_body.specs.Programs.{Program}
use Rattle.tj_body.specs.declared.ask.Answer.TheVariants as answer
use Rattle.tj_record.specs.declared.record.Finish.{Finish}
use Rattle.tj_record.specs.declared.record.Rec.{Rec}
use Rattle.tj_words.specs.declared.view.Custody.{Custody}
use Rattle.tj_words.specs.declared.view.Does.TheVariants as does
use Rattle.tj_words.specs.declared.view.Hand.{Hand}
use Rattle.tj_words.specs.declared.view.Noted.TheVariants as note
use Rattle.tj_words.specs.declared.view.View.{View}
use Rattle.tj_words.specs.LawParts.Holding.{held_in}
use Rattle.tj_words.specs.LawParts.LiveCount.{IsBacked, Backing}
use Rattle.tj_words.specs.Calls.ParkSteps.{with_tokens}
use Rattle.tj_words.specs.Calls.PutRecords.{PutsHome}
use Rattle.tj_words.specs.LawParts.RecordPhases.{WaitsFor}
use Rattle.tj_words.specs.SeatViews.SeatSteps.{IsOn, SeatMe, Tells}
use Rattle.tj_words.specs.SeatViews.TaskLists.{let_go, noted}
use Rattle.tj_words.specs.SeatViews.Views.{stored_stop}

-- the slots that a seat has
abbrev pub SlotsOf : Type 0 → Type 0
SlotsOf B = List (ℕ × Option (Rec B))

module _ {B : Type 0} where
  -- the seat took the slot of t last
  abbrev pub HasSlot : ℕ → SeatMe B → Type 0
  HasSlot t me = (o : Option (Rec B)) × (me.1 ≡ (t, o) ∷ rest me.1)

  -- the records that a seat with these slots has put home, with those before it, by a step that gives the slot back
  -- which it took last
  abbrev pub put_with : SlotsOf B → List (Rec B) → List (Rec B)
  put_with [] before = before
  put_with ((t, None) ∷ slots) before = before
  put_with ((t, Some r) ∷ slots) before = r ∷ before

  -- a seat with these slots put the record home that lay in the slot which it took last
  abbrev pub homed : SlotsOf B → View B → View B
  homed slots v = record v { put_home = put_with slots v.put_home }

  -- the record of the task lies at home, and the seat has the task still
  abbrev pub now_home : Rec B → Custody B → Custody B
  now_home r k = record k { home = Some r }

  -- the record of an unborn task came home
  abbrev pub came_home : ℕ → Rec B → View B → View B
  came_home t r v = record v { tasks = noted t (now_home r) v.tasks }

  -- the task left the seat
  abbrev pub without_task : ℕ → View B → View B
  without_task t v = record v { tasks = let_go t v.tasks }

  -- LIVE was raised, by a seat with these slots: a token more; the record in the slot that was taken last is home
  abbrev pub raised_with : View B → SlotsOf B → SeatMe B
  raised_with v [] = (with_tokens (suc v.tokens) v, [])
  raised_with v ((t, None) ∷ slots) = (with_tokens (suc v.tokens) v, (t, None) ∷ slots)
  raised_with v ((t, Some r) ∷ slots) =
      (homed ((t, Some r) ∷ slots) (came_home t r (with_tokens (suc v.tokens) v)), slots)

  -- the same of a seat
  abbrev pub live_raised : SeatMe B → SeatMe B
  live_raised me = raised_with me.0 me.1

  -- LIVE was lowered: a token less; the record in the slot that was taken last is home, and its task has left the seat
  abbrev pub lowered_with : View B → SlotsOf B → SeatMe B
  lowered_with v [] = (with_tokens (v.tokens - 1) v, [])
  lowered_with v ((t, None) ∷ slots) = (with_tokens (v.tokens - 1) v, (t, None) ∷ slots)
  lowered_with v ((t, Some r) ∷ slots) =
      (homed ((t, Some r) ∷ slots) (without_task t (with_tokens (v.tokens - 1) v)), slots)

  -- the same of a seat
  abbrev pub live_lowered : SeatMe B → SeatMe B
  live_lowered me = lowered_with me.0 me.1

  -- Ready was stored for a task whose record lies at home, which spends a token
  abbrev pub released : ℕ → View B → View B
  released t v = without_task t (with_tokens (v.tokens - 1) v)

  -- Ended was stored, which gives a token
  abbrev pub ended : ℕ → View B → View B
  ended t v = without_task t (with_tokens (suc v.tokens) v)

  -- a record at its start comes home, of an unborn task that the seat holds and that makes no cell in hand
  pub record LaysChild (program : Bool → B → Program B) (t : ℕ) (r : Rec B) (me : SeatMe B) : Type 0 where
    pub custody : Custody B
    pub held : held_in me.0.tasks t ≡ Some custody
    pub unborn : custody.does ≡ does.Unborn
    pub no_hand : (h : Hand) → me.0.hand ≡ Some h → h.maker ≢ t
    pub puts : PutsHome program t custody r me
    pub unfinished : r.finish ≡ None
    pub starts : r.answer ≡ answer.Start

  -- the record of a task that has alarmed comes home, which waits for its cell and makes no cell in hand
  pub record Shelves (program : Bool → B → Program B) (t : ℕ) (r : Rec B) (me : SeatMe B) : Type 0 where
    pub custody : Custody B
    pub held : held_in me.0.tasks t ≡ Some custody
    pub cell : ℕ
    pub way : Way
    pub walker : Walker
    pub alarmed : custody.does ≡ does.Alarmed cell way walker
    pub no_hand : (h : Hand) → me.0.hand ≡ Some h → h.maker ≢ t
    pub puts : PutsHome program t custody r me
    pub unfinished : r.finish ≡ None
    pub waits : WaitsFor r cell

  -- what a record that was put into the slot taken last has to be
  abbrev pub IfRecord : (ℕ → Rec B → Type 0) → SlotsOf B → Type 0
  IfRecord F [] = Unit {0}
  IfRecord F ((t, None) ∷ slots) = Unit {0}
  IfRecord F ((t, Some r) ∷ slots) = F t r

  -- LIVE up is by a seat that holds a token or a running task, and whose lot has room for a token
  pub record MayRaiseLive (program : Bool → B → Program B) (me : SeatMe B) : Type 0 where
    pub backed : IsBacked me.0
    pub room : me.0.tokens < me.0.lot
    pub lays : IfRecord (λ t r. LaysChild program t r me) me.1

  -- LIVE down is by a seat that holds a token, and that holds then what it has to
  pub record MayLowerLive (program : Bool → B → Program B) (me : SeatMe B) : Type 0 where
    pub token : 0 < me.0.tokens
    pub shelves : IfRecord (λ t r. Shelves program t r me) me.1
    pub backing : Backing (live_lowered me).0

  -- the store of Ready is by the seat that holds the unborn task, whose record lies at home; it spends a token, and the
  -- seat holds then what it has to
  pub record MayRelease (t : ℕ) (v : View B) : Type 0 where
    pub custody : Custody B
    pub held : held_in v.tasks t ≡ Some custody
    pub unborn : custody.does ≡ does.Unborn
    pub record_of : Rec B
    pub home : custody.home ≡ Some record_of
    pub token : 0 < v.tokens
    pub backing : Backing (released t v)

  -- the store of Ended is by the seat that holds the running task, which owns nothing any more; its record with its
  -- finish was put into its slot
  pub record MayEnd (program : Bool → B → Program B) (t : ℕ) (me : SeatMe B) : Type 0 where
    pub custody : Custody B
    pub held : held_in me.0.tasks t ≡ Some custody
    pub runs : custody.does ≡ does.Running
    pub no_hand : (h : Hand) → me.0.hand ≡ Some h → h.maker ≢ t
    pub record_of : Rec B
    pub puts : PutsHome program t custody record_of me
    pub finish : Finish
    pub finished : record_of.finish ≡ Some finish
    pub owns_none : record_of.owned ≡ []
    pub room : me.0.tokens < me.0.lot

  -- the add to LIVE, the subtraction from it, and the store of STOP
  abbrev pub live_add : Tells B
  live_add st m n m' = m' ≡ live_raised m

  -- the subtraction from LIVE
  abbrev pub live_sub : Tells B
  live_sub st m n m' = m' ≡ live_lowered m

  -- the store of STOP, which the seat notes with the number stored
  abbrev pub stop_store : Tells B
  stop_store st m n m' = (m' ≡ (stored_stop st.first m.0, m.1)) × IsOn note.StoredStop st

  -- the stores of Ready and of Ended into PHASE of t
  abbrev pub ready_store : ℕ → Tells B
  ready_store t st m n m' = m' ≡ (released t m.0, m.1)

  -- the store of Ended into PHASE of t
  abbrev pub ended_store : ℕ → Tells B
  ended_store t st m n m' = m' ≡ (homed m.1 (ended t m.0), rest m.1)
