-- What a step that stored Ended did with the record of its task.
use Rattle.std.specs.Prelude.{◌≡◌, ℕ, Bool, List, Option}
use Rattle.atomic_table.specs.Table.{Act, State}
use Rattle.tj_body.specs.Programs.{Program}
use Rattle.tj_log.specs.Laws.{StandsIn}
use Rattle.tj_log.specs.Runs.{Past, steps}
use Rattle.tj_record.specs.declared.record.Rec.{Rec}
use Rattle.tj_words.specs.CallLaws.LoggedRuns.{HasRun}
use Rattle.tj_words.specs.CallLaws.StepCalls as call
use Rattle.tj_words.specs.CallLaws.StepLogs.{entry_of}
use Rattle.tj_words.specs.LawParts.Contents.{contents_of}
use Rattle.tj_words.specs.Words.Phases.{phase_in}
use Rattle.tj_words.specs.declared.phase.Phase.TheVariants as phase
use Rattle.tj_words.specs.declared.table.Key.{Key}
use Rattle.tj_words.specs.declared.view.View.{View}
use Rattle.tj_runs.specs.HomeRecords.{LiesEnded}
use Rattle.tj_laws.specs.LoggedPhases.{NotesPut}

module _ (B : Type 0) where
  -- in the run of a table: a step that stored Ended for t put a record home, which the seat's view has in front then of
  -- those that its steps put home; by what stands t has ended, no seat holds it, and this record lies at home
  abbrev pub EndedStoresLie : Type 0
  EndedStoresLie = (program : Bool → B → Program B) (key : Key B) (s : State (Option (Rec B)) (View B))
      (run : HasRun program key s) (x y : State (Option (Rec B)) (View B)) (came : Past (Option (Rec B)) (View B))
      (id t n : ℕ) (slots : List (ℕ × Option (Rec B))) (act : Act (Option (Rec B)))
      → phase_in n ≡ phase.Ended
      → StandsIn y (steps came x id (entry_of (call.puts_phase t) n 0 n) slots act) s run.past
      → (r : Rec B) × NotesPut B id r x y × LiesEnded (contents_of s) t r
