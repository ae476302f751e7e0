-- When a wait for a cell may be polled, what it gives in the end, and what a pending poll leaves.
use Rattle.std.specs.Prelude.{◌≡◌, ℕ, Bool, [], Option, None, IsSomeAnd}
use Rattle.tj_log.specs.Shown.{SeatShown}
use Rattle.tj_body.specs.Programs.{Program}
use Rattle.tj_record.specs.declared.record.Rec.{Rec}
use Rattle.tj_words.specs.declared.table.Laid.{Laid}
use Rattle.tj_words.specs.declared.view.View.{View}
use Rattle.tj_words.specs.SeatViews.SeatSteps.{IsCellOf, IsSeatOf}
use Rattle.tj_words.specs.SeatViews.Views.{IsIdle}
use Rattle.tj_future.specs.declared.watched.Watched.{Watched}
use Rattle.tj_future.specs.LookLogs.{MakesLook, MakesLooks}
use Rattle.tj_future.specs.Looks.{GoesOn, IsWatched}

module _ {B : Type 0} where
  -- the wait has its seat, which is one of this table and may be merged, and the cell is one of it
  abbrev pub MayPoll : Laid B → Option (SeatShown (Option (Rec B)) (View B)) → ℕ → Type 0
  MayPoll laid held p = IsCellOf laid p
      × IsSomeAnd held (λ seat. IsSeatOf laid seat × IsIdle seat.me.0 × (seat.me.1 ≡ []))

  -- the seat comes back with its lot, and may be merged; the last look at the cell was answered like this, and all steps
  -- of the seat from the one to the other are looks
  abbrev pub IsGiven : (Bool → B → Program B) → Laid B → Option (SeatShown (Option (Rec B)) (View B)) → ℕ → Watched
      → SeatShown (Option (Rec B)) (View B) → Type 0
  IsGiven program laid held p answer back = IsSomeAnd held (λ seat. (back.table_id ≡ seat.table_id)
      × IsIdle back.me.0 × (back.me.1 ≡ []) × (back.me.0.lot ≡ seat.me.0.lot)
      × IsWatched program laid.cells p answer seat.me.0 back.me.0 × MakesLooks p answer seat back)

  -- one look found that it goes on, which is all that was done, and the wait has its seat again, with the lot that it
  -- came with
  abbrev pub StillWaits : (Bool → B → Program B) → ℕ → Option (SeatShown (Option (Rec B)) (View B))
      → Option (SeatShown (Option (Rec B)) (View B)) → Type 0
  StillWaits program p old new = IsSomeAnd old (λ before. IsSomeAnd new (λ after.
      (after.table_id ≡ before.table_id) × (after.me.0.lot ≡ before.me.0.lot) × GoesOn program p before.me.0 after.me.0
      × MakesLook p None before after))
