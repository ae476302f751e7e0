-- What the store of Parked, the load of the first of a rest, and the steps on LIVE make of a view.
use Rattle.std.specs.Prelude.{◌≡◌, ℕ, suc, cond, nat_eq, List, [], ◌∷◌, Option, Some, None}
use Rattle.tj_events.specs.declared.walk.Way.{Way}
use Rattle.tj_words.specs.declared.phase.Walk.TheVariants as walk
use Rattle.tj_words.specs.declared.phase.Phase.{Phase}
use Rattle.tj_words.specs.declared.phase.Phase.TheVariants as phase
use Rattle.tj_words.specs.declared.view.Noted.TheVariants as note
use Rattle.tj_words.specs.declared.view.Push.{Push}
use Rattle.tj_words.specs.declared.view.Rest.{Rest}
use Rattle.tj_words.specs.declared.view.View.{View}
use Rattle.tj_words.specs.LawParts.Chains.{parked_phase}
use Rattle.tj_words.specs.Words.Phases.{phase_word}
use Rattle.tj_words.specs.SeatViews.Views.{note_of}

-- the push to come of a seat that has parked the task
abbrev pub new_push : ℕ → ℕ → Way → Push
new_push t p way = record { task = t; cell = p; way = way; next = None }

-- the way of a wait that has been parked, or else what was known
abbrev pub parked_way : Phase → Option Way → Option Way
parked_way phase.Unborn o = o
parked_way phase.Ready o = o
parked_way phase.Running o = o
parked_way phase.Ended o = o
parked_way phase.Promise o = o
parked_way (phase.Waiting c way walk.Walking) o = o
parked_way (phase.Waiting c way walk.Parked) o = Some way
parked_way (phase.Waiting c way walk.Alarmed) o = o

-- what is known of the way of the first of a list, once PHASE of t was loaded
abbrev pub first_way : ℕ → Phase → List ℕ → Option Way → Option Way
first_way t p [] o = o
first_way t p (u ∷ us) o = cond (nat_eq u t) (parked_way p o) o

-- the rest, once PHASE of t was loaded
abbrev pub rest_loaded : ℕ → Phase → Option Rest → Option Rest
rest_loaded t p None = None
rest_loaded t p (Some r) = Some (record r { way = first_way t p r.tasks r.way })

module _ {B : Type 0} where
  -- PHASE of t was loaded as p, by nobody's walk: the way of the first of the rest is known, if that is t
  abbrev pub loaded_phase : ℕ → Phase → View B → View B
  loaded_phase t p v = record v {
    steps = suc v.steps;
    plain_loads = suc v.plain_loads;
    rest = rest_loaded t p v.rest;
    notes = note_of (note.Phase t) (phase_word p) v ∷ v.notes;
  }

  -- the first of the seat's rest is parked on the rest's cell
  abbrev pub FirstTold : ℕ → Phase → View B → Type 0
  FirstTold t p v = (r : Rest) (ts : List ℕ) → v.rest ≡ Some r → r.tasks ≡ t ∷ ts
      → (way : Way) × (p ≡ parked_phase r.cell way)

-- the view after a step on LIVE that leaves the seat with so many tokens
abbrev pub with_tokens : {B : Type 0} → ℕ → View B → View B
with_tokens k v = record v { steps = suc v.steps; tokens = k }
