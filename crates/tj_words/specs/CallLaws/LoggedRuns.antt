-- The run of a table: what stands came from what stands at first by step calls, each of a seat of which what the call
-- asks is so, by splits, and by merges of idle seats alone; and the logs of the seats have these calls.
use Rattle.std.specs.Prelude.{◌≡◌, ◌⊎◌, ℕ, Bool, List, [], ◌∷◌, ◌++◌, map, Option}
use mathlib.Core.Logic.{inl, inr}
use Rattle.atomic_table.specs.Table.{State, opening}
use Rattle.tj_body.specs.Points.{IsIn}
use Rattle.tj_body.specs.Programs.{Program}
use Rattle.tj_log.specs.Logs.{own_state}
use Rattle.tj_log.specs.Laws.{AreWith}
use Rattle.tj_log.specs.Runs.{IsRun, Kept, Past, befores_of, begins, joins, log_of, splits, steps, tell}
use Rattle.tj_log.specs.Runs.{took_befores_of, took_of}
use Rattle.tj_log.specs.declared.entry.Entry.{Entry}
use Rattle.tj_log.specs.declared.entry.Logged.{Logged}
use Rattle.tj_record.specs.declared.record.Rec.{Rec}
use Rattle.tj_words.specs.declared.table.Key.{Key}
use Rattle.tj_words.specs.declared.view.View.{View}
use Rattle.tj_words.specs.CallLaws.CallRuns.{AreAskedMoments, IsAskedCall, IsAskedStep}
use Rattle.tj_words.specs.CallLaws.RestedRuns.{Ruled, last_moment}
use Rattle.tj_words.specs.CallLaws.StepLogs.{entry_of, table_terms}
use Rattle.tj_words.specs.LawParts.FirstState.{first_slots, first_view, first_words}
use Rattle.tj_words.specs.Words.Offsets.{word}

-- the entries of a log in the order of the steps: a log has the last step in front
abbrev pub in_order : {A : Type 0} → List A → List A
in_order [] = []
in_order (e ∷ es) = in_order es ++ e ∷ []

-- what stood at each moment of a past, the first one first
abbrev pub states_of : {S V : Type 0} → State S V → Past S V → List (State S V)
states_of now begins = now ∷ []
states_of now (steps past s id e slots act) = states_of s past ++ now ∷ []
states_of now (splits past s id) = states_of s past ++ now ∷ []
states_of now (joins past s a b) = states_of s past ++ now ∷ []

module _ {B : Type 0} (program : Bool → B → Program B) (key : Key B) where
  -- this call is the seat j's, with this entry: the number that it tells was found in the word then, or stored there
  pub record IsEntryOf (j : ℕ) (e : Entry) (s t : State (Option (Rec B)) (View B)) (c : IsAskedCall program key s t)
      : Type 0 where
    pub by : c.made.id ≡ j
    pub is : e ≡ entry_of c.made.call c.made.operands.first c.made.operands.second e.found
    pub found : e.found ≡ tell e.did e.first (word s.words e.word)

  -- so is this step: a split and a merge have no entry
  abbrev pub IsEntry : ℕ → Entry → (s t : State (Option (Rec B)) (View B)) → IsAskedStep program key s t → Type 0
  IsEntry j e s t (inl c) = IsEntryOf j e s t c
  IsEntry j e s t (inr b) = ⊥

  -- these entries are steps of the seat j among these moments, in this order
  abbrev pub AreStepsOf : ℕ → List Entry → (u : Ruled program key) (later : List (Ruled program key))
      → AreAskedMoments program key u later → Type 0
  AreStepsOf j [] u later a = Unit {0}
  AreStepsOf j (e ∷ es) u [] a = ⊥
  AreStepsOf j (e ∷ es) u (w ∷ ws) a =
      (IsEntry j e u.now w.now a.0 × AreStepsOf j es w ws a.1) ⊎ AreStepsOf j (e ∷ es) w ws a.1

  -- this step is a call of a seat that had this view before it
  abbrev pub HadView : View B → (s t : State (Option (Rec B)) (View B)) → IsAskedStep program key s t → Type 0
  HadView v s t (inl c) = c.made.seat.0 ≡ v
  HadView v s t (inr b) = ⊥

  -- these entries are steps of the seat j among these moments, in this order, and each was made with its view before it
  abbrev pub AreStepsWith : ℕ → List Entry → List (View B) → (u : Ruled program key) (later : List (Ruled program key))
      → AreAskedMoments program key u later → Type 0
  AreStepsWith j [] [] u later a = Unit {0}
  AreStepsWith j [] (v ∷ vs) u later a = ⊥
  AreStepsWith j (e ∷ es) [] u later a = ⊥
  AreStepsWith j (e ∷ es) (v ∷ vs) u [] a = ⊥
  AreStepsWith j (e ∷ es) (v ∷ vs) u (w ∷ ws) a =
      (IsEntry j e u.now w.now a.0 × HadView v u.now w.now a.0 × AreStepsWith j es vs w ws a.1)
      ⊎ AreStepsWith j (e ∷ es) (v ∷ vs) w ws a.1

  -- these are a log and the views before its steps, of some seat
  abbrev pub IsLogWith : (u : Ruled program key) (later : List (Ruled program key)) → AreAskedMoments program key u later
      → List Entry → List (View B) → Type 0
  IsLogWith u later a log views = (i : ℕ) × AreStepsWith i (in_order log) (in_order views) u later a

  -- a run from the first state of a table to this one, by the steps of the past that tj_log keeps: the moments are
  -- those of that past, and the logs of the seats have their steps
  pub record HasRun (s : State (Option (Rec B)) (View B)) : Type 0 where
    pub first : Ruled program key
    pub later : List (Ruled program key)
    pub moments : AreAskedMoments program key first later
    pub start : first.now
        ≡ opening (first_words key.cells) (first_slots key.cells key.root.value)
        (first_view key.cells key.root.value key.strict)
    pub end : (last_moment program key first later).now ≡ s
    pub past : Past (Option (Rec B)) (View B)
    pub logged : IsRun (table_terms program key) s past
    pub same : map (λ (u : Ruled program key). u.now) (first ∷ later) ≡ states_of s past
    -- the entries of a seat's log are its steps, in the order of the run
    pub logs : (j : ℕ) → AreStepsOf j (in_order (log_of j past)) first later moments
    -- each log that a seat has taken in has the steps of a seat, too
    pub taken : (j : ℕ) (log : List Entry) → IsIn log (took_of j past)
        → (i : ℕ) × AreStepsOf i (in_order log) first later moments
    -- the view that stands beside an entry of a log is the one that the seat had before this step
    pub befores : (j : ℕ) → AreStepsWith j (in_order (log_of j past)) (in_order (befores_of j past)) first later moments
    -- so it is of the logs that a seat has taken in
    pub took_befores : (j : ℕ) → AreWith (IsLogWith first later moments) (took_of j past) (took_befores_of j past)

-- each table with logs has one, of the past that its logs are of
abbrev pub TablesHaveRuns : Type 0 → Type 0
TablesHaveRuns B = (program : Bool → B → Program B) (key : Key B) (s : State (Option (Rec B)) (Logged (View B)))
    (kept : Kept (table_terms program key) s) → (run : HasRun program key (own_state s)) × (run.past ≡ kept.past)
