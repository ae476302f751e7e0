-- The step of a wake that makes the first of those who wait ready.
use Rattle.std.specs.Prelude.{◌≡◌, ℕ, suc, ◌-◌, List, ◌∷◌, ◌++◌}
use Rattle.tj_events.specs.declared.walk.Way.{Way}
use Rattle.tj_events.specs.Events.{raised_by_way}
use Rattle.tj_words.specs.declared.head.Head.{Head}
use Rattle.tj_words.specs.declared.phase.Phase.{Phase}
use Rattle.tj_words.specs.declared.phase.Phase.TheVariants as phase
use Rattle.tj_words.specs.declared.view.View.{View}
use Rattle.tj_words.specs.LawParts.Chains.{head_of}
use Rattle.tj_words.specs.Calls.ChainSteps.{rest_of}
use Rattle.tj_words.specs.SeatViews.SeatSteps.{SeatMe}
use Rattle.tj_cells.specs.CallLogs.{Seat}
use Rattle.tj_park.specs.WakeLogs.{MakesReady}
use Rattle.tj_park.specs.Wakes.{MayWakeTasks, wake_notes}

-- how often OTHERS counts a task in this phase
abbrev pub counted_in : Phase → ℕ
counted_in (phase.Waiting c way walk) = raised_by_way way
counted_in _ = 0

module _ {B : Type 0} where
  -- OTHERS was lowered for a wait that was cleared, as often as it was counted there; so many steps were made then
  abbrev pub lowered_for : Phase → ℕ → View B → View B
  lowered_for was n v = record v { steps = n; cleared = v.cleared - counted_in was }

  -- t is the first of its rest of p, of which nothing is read yet
  pub record MayWakeFirst (p t : ℕ) (me : SeatMe B) : Type 0 where
    pub wakes : MayWakeTasks me
    pub left : List ℕ
    pub first : me.0.rest ≡ rest_of p (t ∷ left)

  -- the first of the rest of p was made ready; the head tells the one behind it
  abbrev pub WakesFirst : ℕ → ℕ → Head → View B → View B → Type 0
  WakesFirst p t next v w = (left : List ℕ) → v.rest ≡ rest_of p (t ∷ left)
      → (next ≡ head_of left)
      × ((way : Way) × (w ≡ record v {
        steps = w.steps;
        plain_loads = suc v.plain_loads;
        rest = rest_of p left;
        notes = wake_notes p t way left v ++ v.notes;
      }))

  -- and these are the steps by which it was
  abbrev pub StepsOfFirst : ℕ → ℕ → Seat B → Seat B → Type 0
  StepsOfFirst p t old new = (left : List ℕ) → old.me.0.rest ≡ rest_of p (t ∷ left) → MakesReady p t left old new
