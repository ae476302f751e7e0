-- What the step calls say of their seat, and what each step tells.
use Rattle.std.specs.Prelude.{◌≡◌, ◌≢◌, ℕ, ◌<◌, ◌^◌, min, Option}
use Rattle.atomic_table.specs.Table.{Me, Step}
use Rattle.tj_log.specs.Shown.{SeatShown}
use Rattle.tj_record.specs.declared.record.Rec.{Rec}
use Rattle.tj_words.specs.declared.table.Laid.{Laid}
use Rattle.tj_words.specs.declared.view.View.{View}
use Rattle.tj_words.specs.declared.view.Noted.{Noted}
use Rattle.tj_words.specs.declared.view.Noted.TheVariants as note
use Rattle.tj_words.specs.Words.Offsets.{count_at, live_at, next_at, own_at, phase_at, stop_at}
use Rattle.tj_words.specs.SeatViews.Views.{loaded_plain, saw_live, saw_rest}

-- a seat with the slots that it has
abbrev pub SeatMe : Type 0 → Type 0
SeatMe B = Me (Option (Rec B)) (View B)

-- what a step may tell: of the step, the seat before, the number found and the seat after
abbrev pub Tells : Type 0 → Type 1
Tells B = Step (Option (Rec B)) → SeatMe B → ℕ → SeatMe B → Type 0

-- the word on which a step is that is noted
abbrev pub noted_at : Noted → ℕ
noted_at note.Live = live_at
noted_at note.Stop = stop_at
noted_at note.StoredStop = stop_at
noted_at note.Count = count_at
noted_at (note.Owner c) = own_at c
noted_at (note.Phase t) = phase_at t
noted_at (note.Next t) = next_at t
noted_at (note.Missed t) = phase_at t

module _ {B : Type 0} where
  -- the step is on the word that it is noted with
  abbrev pub IsOn : Noted → Step (Option (Rec B)) → Type 0
  IsOn kind st = st.word ≡ noted_at kind

  -- a seat of this table
  abbrev pub IsSeatOf : Laid B → SeatShown (Option (Rec B)) (View B) → Type 0
  IsSeatOf laid seat = seat.table_id ≡ laid.table.shared.table_id

  -- a cell of this table
  abbrev pub IsCellOf : Laid B → ℕ → Type 0
  IsCellOf laid c = c < laid.cells

  -- the seat is still the same seat of the same table, with the same slots
  abbrev pub IsSameSeat : SeatShown (Option (Rec B)) (View B) → SeatShown (Option (Rec B)) (View B) → Type 0
  IsSameSeat old new = (new.table_id ≡ old.table_id) × (new.id ≡ old.id) × (new.me.1 ≡ old.me.1)

  -- a load that is no event: the seat notes it with the number found, which may stand there
  abbrev pub plain_load : Noted → (ℕ → Type 0) → Tells B
  plain_load kind May st m n m' = (m'.1 ≡ m.1) × (m'.0 ≡ loaded_plain kind n m.0) × May n × IsOn kind st

  -- the load of LIVE, which the seat notes
  abbrev pub live_load : Tells B
  live_load st m n m' = (m'.1 ≡ m.1) × (n ≡ 0 → m'.0 ≡ saw_rest m.0) × (n ≢ 0 → m'.0 ≡ saw_live n m.0)
      × (n < 2 ^ 32) × IsOn note.Live st

-- some cells are drawn
abbrev pub IsCount : ℕ → ℕ → Type 0
IsCount cells n = 0 < min n cells
