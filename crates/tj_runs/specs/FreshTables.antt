-- A table in which nothing was done yet.
use Rattle.std.specs.Prelude.{◌≡◌, Bool, map, Option}
use mathlib.Core.Option.{some}
use Rattle.atomic_table.specs.Table.{State}
use Rattle.tj_body.specs.Programs.{Program}
use Rattle.tj_log.specs.Laws.{HasView, IsFresh}
use Rattle.tj_log.specs.Runs.{Kept}
use Rattle.tj_log.specs.Shown.{SeatShown}
use Rattle.tj_log.specs.declared.entry.Logged.{Logged}
use Rattle.tj_record.specs.declared.record.Rec.{Rec}
use Rattle.tj_words.specs.declared.table.Key.{Key}
use Rattle.tj_words.specs.declared.view.View.{View}
use Rattle.tj_words.specs.CallLaws.StepLogs.{table_terms}
use Rattle.tj_words.specs.LawParts.FirstState.{first_slots, first_words}

-- where a seat has made no step, was never split and has taken in no other one, the words and the slots are those of a
-- new table
abbrev pub FreshIsFirst : Type 0 → Type 0
FreshIsFirst B = (program : Bool → B → Program B) (key : Key B) (s : State (Option (Rec B)) (Logged (View B)))
    (seat : SeatShown (Option (Rec B)) (View B)) → Kept (table_terms program key) s → HasView s seat → IsFresh seat
    → (s.words ≡ first_words key.cells) × (s.homes ≡ map some (first_slots key.cells key.root.value))
