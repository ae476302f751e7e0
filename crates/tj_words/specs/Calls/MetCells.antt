-- What a seat learns of cells by a load of OWN or PHASE that is no event: which are out of their makers' hands.
use Rattle.std.specs.Prelude.{◌≡◌, ◌≢◌, ◌⊎◌, ℕ, suc, ◌≤◌, List, [], ◌∷◌, ◌++◌, Option, Some, None}
use Rattle.tj_base.specs.declared.cell.CellId.{CellId}
use Rattle.tj_body.specs.Points.{Begins}
use Rattle.tj_body.specs.declared.point.Reference.{Reference}
use Rattle.tj_words.specs.declared.phase.Phase.{Phase}
use Rattle.tj_words.specs.declared.view.Noted.TheVariants as note
use Rattle.tj_words.specs.declared.view.View.{View}
use Rattle.tj_words.specs.LawParts.TreeWords.{IsCell, AreCells}
use Rattle.tj_words.specs.Words.Lists.{All}
use Rattle.tj_words.specs.Words.Codes.{IsPhaseWord}
use Rattle.tj_words.specs.Words.Owners.{owner_in, owner_number}
use Rattle.tj_words.specs.Words.Phases.{phase_in}
use Rattle.tj_words.specs.SeatViews.SeatSteps.{IsOn, Tells}
use Rattle.tj_words.specs.SeatViews.SeenWords.{IsTaskIn}
use Rattle.tj_words.specs.SeatViews.Views.{loaded_plain}
use Rattle.tj_words.specs.Steps.StepEvents.{IsBegun, wait_in}
use Rattle.tj_words.specs.Calls.ParkSteps.{FirstTold, loaded_phase}
use Rattle.tj_words.specs.Calls.WalkViews.{owner_seen, read_on}
use Rattle.tj_events.specs.Events.{wait_found}

module _ {B : Type 0} where
  -- the seat knows these cells too, and what the cells are
  abbrev pub met : List ℕ → List Reference → View B → View B
  met cells born v = record v { known = cells ++ v.known; born = born }

  -- the seat knows these cells from now on, of which t is a task: they are out of their makers' hands
  pub record Meets (cells : ℕ) (there : List ℕ) (t : ℕ) (v w : View B) : Type 0 where
    pub born : List Reference
    pub begins : Begins v.born born
    pub all : AreCells cells born
    pub named : All (λ c. (x : Reference) × IsCell born c x) there
    pub task : IsTaskIn born t
    pub view : w ≡ met there born v

  -- OWN of c was loaded: where a task owns c, the seat knows both from now on
  abbrev pub SeesOwner : ℕ → ℕ → Option ℕ → View B → View B → Type 0
  SeesOwner cells c None v w = w ≡ loaded_plain (note.Owner c) 0 v
  SeesOwner cells c (Some u) v w = Meets cells (c ∷ u ∷ []) u (loaded_plain (note.Owner c) (suc u) v) w

  -- PHASE of t was loaded as p: where the task has begun, a seat that has no rest of a chain knows it from now on
  abbrev pub SeesPhase : ℕ → ℕ → Phase → View B → View B → Type 0
  SeesPhase cells t p v w = (v.rest ≡ None → IsBegun p → Meets cells (t ∷ []) t (loaded_phase t p v) w)
      × ((v.rest ≢ None) ⊎ (¬ IsBegun p) → w ≡ loaded_phase t p v)

  -- a load of OWN of c that is no event
  abbrev pub owner_load : ℕ → ℕ → Tells B
  owner_load cells c st m n m' = (m'.1 ≡ m.1) × SeesOwner cells c (owner_in n) m.0 m'.0 × (n ≤ cells)
      × IsOn (note.Owner c) st

  -- a load of PHASE of t that is no event
  abbrev pub phase_load : ℕ → ℕ → Tells B
  phase_load cells t st m n m' = (m'.1 ≡ m.1) × SeesPhase cells t (phase_in n) m.0 m'.0 × IsPhaseWord cells n
      × FirstTold t (phase_in n) m.0 × IsOn (note.Phase t) st

  -- OWN of c was loaded: by nobody's walk, or by that of a task, which has read on
  abbrev pub LoadsOwner : Option CellId → ℕ → ℕ → Option CellId → View B → View B → Type 0
  LoadsOwner None cells c o v w = SeesOwner cells c (owner_number o) v w
  LoadsOwner (Some t) cells c o v w = w ≡ read_on t.0 (λ z. owner_seen (owner_number o) z z.last) v

  -- PHASE of u was loaded: by nobody's walk, or by that of a task, which has read on
  abbrev pub LoadsPhase : Option CellId → ℕ → ℕ → Phase → View B → View B → Type 0
  LoadsPhase None cells u p v w = SeesPhase cells u p v w
  LoadsPhase (Some t) cells u p v w = w ≡ read_on t.0 (wait_found u (wait_in p)) v
