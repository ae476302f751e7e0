-- What the log of a seat says of PHASE and of records, in the run that the table has: a store of a phase that is for
-- good stands, an exchange by which a task runs took the record that was put home last, and who put a record home has it
-- in its view.
use Rattle.std.specs.Prelude.{◌≡◌, ◌⊎◌, ℕ, ◌∷◌, Bool, List, Option, Some}
use lib.ListN.{get_elem?}
use mathlib.Core.Option.{some}
use Rattle.atomic_table.specs.Table.{Act, State, gives, takes}
use Rattle.tj_body.specs.Points.{IsIn}
use Rattle.tj_body.specs.Programs.{Program}
use Rattle.tj_log.specs.Laws.{IsLastPut, StandsIn}
use Rattle.tj_log.specs.Runs.{Past, log_of, steps, took_of}
use Rattle.tj_log.specs.declared.entry.Entry.{Entry}
use Rattle.tj_words.specs.declared.phase.Phase.TheVariants as phase
use Rattle.tj_record.specs.declared.record.Rec.{Rec}
use Rattle.tj_words.specs.declared.table.Key.{Key}
use Rattle.tj_words.specs.declared.view.View.{View}
use Rattle.tj_words.specs.CallLaws.LoggedRuns.{HasRun}
use Rattle.tj_words.specs.CallLaws.StepCalls as call
use Rattle.tj_words.specs.CallLaws.StepLogs.{entry_of}
use Rattle.tj_words.specs.LawParts.Contents.{contents_of}
use Rattle.tj_words.specs.LawParts.FirstState.{first_slots}
use Rattle.tj_words.specs.Words.Phases.{phase_in}
use Rattle.tj_runs.specs.PhaseChanges.{IsForGood}

-- the step stands in the log of the seat j, or in one that this seat has taken in
abbrev pub HasLogged : {S V : Type 0} → ℕ → Entry → Past S V → Type 0
HasLogged j e past = IsIn e (log_of j past) ⊎ ((log : List Entry) × IsIn log (took_of j past) × IsIn e log)

module _ (B : Type 0) where
  -- where the log of a seat has the store of a phase of t that is for good, this is the phase of t by what stands
  abbrev pub LoggedPhasesStand : Type 0
  LoggedPhasesStand = (program : Bool → B → Program B) (key : Key B) (s : State (Option (Rec B)) (View B))
      (run : HasRun program key s) (j t n : ℕ) → IsForGood (phase_in n)
      → HasLogged j (entry_of (call.puts_phase t) n 0 n) run.past
      → (contents_of s).words.phase t ≡ phase_in n

  -- the step from x to y put this record in front of those that the view of the seat id says that its steps took
  abbrev pub NotesRecord : ℕ → Rec B → State (Option (Rec B)) (View B) → State (Option (Rec B)) (View B) → Type 0
  NotesRecord id r x y = (v w : View B) × (get_elem? x.views id ≡ some v) × (get_elem? y.views id ≡ some w)
      × (w.records ≡ r ∷ v.records)

  -- a step of the run that exchanged a phase of t, which it found, for Running took a record from the slot of t: the
  -- one that the last step on this slot put there, or that lay there at first; and the seat's view says so
  abbrev pub RecordsAreAsPut : Type 0
  RecordsAreAsPut = (program : Bool → B → Program B) (key : Key B) (s : State (Option (Rec B)) (View B))
      (run : HasRun program key s) (x y : State (Option (Rec B)) (View B)) (came : Past (Option (Rec B)) (View B))
      (id t n m : ℕ) (slots : List (ℕ × Option (Rec B))) (act : Act (Option (Rec B)))
      → phase_in m ≡ phase.Running
      → StandsIn y (steps came x id (entry_of (call.swaps_phase t) n m n) slots act) s run.past
      → (r : Rec B) × (act ≡ takes t (Some r))
      × IsLastPut t (Some r) (first_slots key.cells key.root.value) came × NotesRecord id r x y

  -- the step from x to y put this record in front of those that the view of the seat id says that its steps put home
  abbrev pub NotesPut : ℕ → Rec B → State (Option (Rec B)) (View B) → State (Option (Rec B)) (View B) → Type 0
  NotesPut id r x y = (v w : View B) × (get_elem? x.views id ≡ some v) × (get_elem? y.views id ≡ some w)
      × (w.put_home ≡ r ∷ v.put_home)

  -- a step of the run that gave a slot back with a record in it is noted so by its seat's view
  abbrev pub PutsAreNoted : Type 0
  PutsAreNoted = (program : Bool → B → Program B) (key : Key B) (s : State (Option (Rec B)) (View B))
      (run : HasRun program key s) (x y : State (Option (Rec B)) (View B)) (came : Past (Option (Rec B)) (View B))
      (id : ℕ) (e : Entry) (t : ℕ) (r : Rec B) (slots : List (ℕ × Option (Rec B)))
      → StandsIn y (steps came x id e ((t, Some r) ∷ slots) gives) s run.past → NotesPut id r x y
