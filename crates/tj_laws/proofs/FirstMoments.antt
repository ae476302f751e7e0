-- A new table is under its rule, and its one seat may be split.
use Rattle.std.proofs.Common.{ℕ, Bool, Option, refl, ap, inl, inr, arith}
use Rattle.atomic_table.specs.Table.{State, opening}
use Rattle.tj_body.specs.Asks.{Await}
use Rattle.tj_body.specs.Laws.{HoldsOfPrograms}
use Rattle.tj_body.specs.Programs.{Program, program_of}
use Rattle.tj_body.specs.RoundPoints.{TasksStart}
use Rattle.tj_body.specs.declared.ask.Answer.{Answer}
use Rattle.tj_body.specs.declared.ask.Ask.{Ask}
use Rattle.tj_events.specs.Laws.{StartMeetsFacts}
use Rattle.tj_record.specs.declared.record.Rec.{Rec}
use Rattle.tj_words.specs.declared.view.View.{View}
use Rattle.tj_words.specs.Law.{Rule}
use Rattle.tj_words.specs.LawParts.Contents.{WordsSay}
use Rattle.tj_words.specs.LawParts.FirstState.{first_slots, first_view, first_words}
use Rattle.tj_words.specs.SeatViews.Views.{MaySplit}
use Rattle.tj_words.proofs.Seating.FirstWords.{first_words_say}
use Rattle.tj_words.proofs.Seating.Opening.{opening_meets}
use Rattle.tj_words.proofs.Seating.Splitting.{rule_splits}
use Rattle.tj_laws.specs.NewTables.{NewTablesGoOn}

module _ {B : Type 0} (places : B → ℕ) (awaits : B → Await) (left : B → ℕ) (asks : B → Answer → Ask B)
    (then : B → Answer → B) where
  pub new_tables_go_on : StartMeetsFacts → HoldsOfPrograms places awaits left asks then TasksStart
      → NewTablesGoOn places awaits left asks then
  new_tables_go_on start_meets starts key some_cells few fresh = (
    record { now = first; rule = rule },
    record { now = _; rule = rule_splits program key 0 seat room first rule refl },
    refl,
    inr (inl (record { id = 0; view = seat; at = refl; after = refl })),
    ap (λ (w : WordsSay). w.phase 0) (first_words_say key.cells some_cells),
    ap (λ (w : WordsSay). w.live) (first_words_say key.cells some_cells),
  )
    where
      program : Bool → B → Program B
      program = program_of places awaits left asks then

      seat : View B
      seat = first_view key.cells key.root.value key.strict

      first : State (Option (Rec B)) (View B)
      first = opening (first_words key.cells) (first_slots key.cells key.root.value) seat

      rule : Rule program key first
      rule = opening_meets program key some_cells few start_meets (starts key.strict key.root.value fresh) fresh refl
          (first_words key.cells) (first_slots key.cells key.root.value) refl refl

      room : MaySplit seat
      room = record { lot = omega arith; refused = omega arith; tokens = omega arith; cleared = omega arith }
