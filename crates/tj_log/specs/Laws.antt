-- What the rule of a table with logs says of it.
use Rattle.std.specs.Prelude.{◌≡◌, ◌≢◌, ◌⊎◌, ℕ, true, List, [], ◌∷◌, ◌++◌, length, map}
use lib.ListN.{get_elem?}
use Rattle.tj_log.specs.Logs.{earlier}
use Rattle.tj_log.specs.Shown.{SeatShown}
use mathlib.Core.Option.{some}
use Rattle.atomic_table.specs.Table.{State, Act, keeps, takes, gives, chain}
use Rattle.tj_log.specs.declared.entry.Logged.{Logged}
use Rattle.tj_log.specs.declared.entry.Entry.{Entry}
use Rattle.tj_log.specs.Runs.{Terms, Past, begins, steps, splits, joins, IsRun, Kept, befores_of, log_at, log_of}
use Rattle.tj_log.specs.Runs.{took_at, took_befores_of, took_of}

module _ {S V : Type 0} where
  -- no seat's log has a step
  abbrev pub NothingIsLogged : State S (Logged V) → Type 0
  NothingIsLogged s = ((j : ℕ) → log_at s.views j ≡ []) × ((j : ℕ) → took_at s.views j ≡ [])

  -- this seat is one of the table's, with this view
  abbrev pub HasView : State S (Logged V) → SeatShown S V → Type 0
  HasView s seat = (left_slots : List ℕ) × (get_elem? s.views seat.id ≡ some (record {
    own = seat.me.0;
    log = seat.log;
    took = seat.took;
    lone = seat.lone;
    slots = left_slots;
    befores = earlier seat.befores seat.took_befores;
  }))

  -- a seat that has made no step, was never split, and has taken in none
  abbrev pub IsFresh : SeatShown S V → Type 0
  IsFresh seat = (seat.log ≡ []) × (seat.took ≡ []) × (seat.lone ≡ true) × (seat.befores ≡ [])
      × (seat.took_befores ≡ [])

  -- the words and the slots are those of some opening
  abbrev pub HasOpened : Terms S V → State S (Logged V) → Type 0
  HasOpened terms s = (ws : List ℕ) × (xs : List S) × terms.opens ws xs × (s.words ≡ ws) × (s.homes ≡ map some xs)

-- where a seat of a table is fresh, the words and the slots are the first ones
abbrev pub FreshIsFirst : {S V : Type 0} → Terms S V → Type 0
FreshIsFirst {S} {V} terms = (s : State S (Logged V)) (seat : SeatShown S V) → Kept terms s → HasView s seat
    → IsFresh seat → HasOpened terms s

module _ {S : Type 0} where
  -- a step of a seat with these slots gives the slot k back, with y in it
  abbrev pub Gives : ℕ → S → List (ℕ × S) → Act S → Type 0
  Gives k y slots keeps = ⊥
  Gives k y slots (takes j x) = ⊥
  Gives k y [] gives = ⊥
  Gives k y (x ∷ xs) gives = x ≡ (k, y)
  Gives k y slots (chain a b) = ⊥

  -- it neither takes the slot k nor gives it back
  abbrev pub LeavesSlot : ℕ → List (ℕ × S) → Act S → Type 0
  LeavesSlot k slots keeps = Unit {0}
  LeavesSlot k slots (takes j x) = k ≢ j
  LeavesSlot k [] gives = Unit {0}
  LeavesSlot k (x ∷ xs) gives = k ≢ x.0
  LeavesSlot k slots (chain a b) = ⊥

module _ {S V : Type 0} where
  -- the last step on the slot k gave it back with y in it; or no step was made on it, and y lay there at first
  abbrev pub IsLastPut : ℕ → S → List S → Past S V → Type 0
  IsLastPut k y opened begins = get_elem? opened k ≡ some y
  IsLastPut k y opened (steps past s id e slots act) =
      Gives k y slots act ⊎ (LeavesSlot k slots act × IsLastPut k y opened past)
  IsLastPut k y opened (splits past s id) = IsLastPut k y opened past
  IsLastPut k y opened (joins past s a b) = IsLastPut k y opened past

  -- what lies at home in a slot is what the last step on it put there, and so is what a step takes
  pub record AreAsPut (terms : Terms S V) : Type 0 where
    pub at_home : (now : State S V) (past : Past S V) (run : IsRun terms now past) (k : ℕ) (y : S)
        → get_elem? now.homes k ≡ some (some y) → IsLastPut k y run.slots past
    pub taken : (now s : State S V) (past : Past S V) (id : ℕ) (e : Entry) (slots : List (ℕ × S)) (k : ℕ) (y : S)
        (run : IsRun terms now (steps past s id e slots (takes k y))) → IsLastPut k y run.slots past

-- each of these logs goes with the views at its place
abbrev pub AreWith : {V : Type 0} → (List Entry → List V → Type 0) → List (List Entry) → List (List V) → Type 0
AreWith P [] [] = Unit {0}
AreWith P [] (vs ∷ vss) = ⊥
AreWith P (log ∷ logs) [] = ⊥
AreWith P (log ∷ logs) (vs ∷ vss) = P log vs × AreWith P logs vss

module _ {S V : Type 0} where
  -- s stands at a moment of the run to `now`, and came so
  abbrev pub StandsIn : State S V → Past S V → State S V → Past S V → Type 0
  StandsIn s came now begins = (s ≡ now) × (came ≡ begins)
  StandsIn s came now (steps past z id e slots act) =
      ((s ≡ now) × (came ≡ steps past z id e slots act)) ⊎ StandsIn s came z past
  StandsIn s came now (splits past z id) = ((s ≡ now) × (came ≡ splits past z id)) ⊎ StandsIn s came z past
  StandsIn s came now (joins past z a b) = ((s ≡ now) × (came ≡ joins past z a b)) ⊎ StandsIn s came z past

  -- the seat j made the step e at a moment of the run to `now`, after the steps `older`, and as many steps as `newer`
  -- has since; the view that it had then is the one that the seat's views before its steps have at this place
  pub record IsMade (now : State S V) (past : Past S V) (j : ℕ) (newer : List Entry) (e : Entry) (older : List Entry)
      : Type 0 where
    pub before : State S V
    pub came : Past S V
    pub slots : List (ℕ × S)
    pub act : Act S
    pub after : State S V
    pub stands : StandsIn after (steps came before j e slots act) now past
    pub log : log_of j came ≡ older
    pub view : V
    pub at : get_elem? before.views j ≡ some view
    pub since : List V
    pub views : befores_of j past ≡ since ++ view ∷ befores_of j came
    pub as_many : length since ≡ length newer

  -- at a moment of the run to `now` some seat had this log, and these views before its steps
  pub record HasLog (now : State S V) (past : Past S V) (log : List Entry) (views : List V) : Type 0 where
    pub at : State S V
    pub came : Past S V
    pub seat : ℕ
    pub stands : StandsIn at came now past
    pub is : log_of seat came ≡ log
    pub views_are : befores_of seat came ≡ views

  -- what is logged is of the run: each entry of a seat's log is a step of the seat, made after the older ones with the
  -- view that stands at its place; each log that it has taken in was that of a seat, with the views that stand at its
  -- place; and what stands at a moment of a run came by a run
  pub record LogsAreOfRuns (terms : Terms S V) : Type 0 where
    pub own : (now : State S V) (past : Past S V) → IsRun terms now past → (j : ℕ) (newer : List Entry) (e : Entry)
        (older : List Entry) → log_of j past ≡ newer ++ e ∷ older → IsMade now past j newer e older
    pub taken : (now : State S V) (past : Past S V) (j : ℕ)
        → AreWith (HasLog now past) (took_of j past) (took_befores_of j past)
    pub earlier : (now s : State S V) (past came : Past S V) → IsRun terms now past → StandsIn s came now past
        → IsRun terms s came
