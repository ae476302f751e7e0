-- What a record at home says of its task's wait, against PHASE.
use Rattle.std.specs.Prelude.{◌≡◌, ◌≢◌, ◌⊎◌, ℕ, [], Option, Some, None}
use Rattle.std.specs.Prelude.{slice_get}
use Rattle.tj_body.specs.declared.ask.Answer.TheVariants as answer
use Rattle.tj_base.specs.declared.cell.CellId.{CellId}
use Rattle.tj_events.specs.declared.walk.Way.{Way}
use Rattle.tj_words.specs.declared.phase.Walk.{Walk}
use Rattle.tj_words.specs.declared.phase.Phase.{Phase}
use Rattle.tj_words.specs.declared.phase.Phase.TheVariants as phase
use Rattle.tj_record.specs.declared.record.Finish.{Finish}
use Rattle.tj_record.specs.declared.record.Held.{Held}
use Rattle.tj_record.specs.declared.record.Rec.{Rec}

-- a task that waits owns its result
abbrev pub WaitersOwn : (ℕ → Option ℕ) → (ℕ → Phase) → Type 0
WaitersOwn own phases = (t : ℕ) (c : CellId) (way : Way) (walk : Walk) → phases t ≡ phase.Waiting c way walk
    → own t ≢ None

module _ {B : Type 0} where
  -- the record waits for the cell: its answer is the place of the cell among those held
  abbrev pub WaitsFor : Rec B → ℕ → Type 0
  WaitsFor r c = (k : ℕ) × (h : Held) × (r.answer ≡ answer.RefAt k) × (slice_get r.held k ≡ Some h) × (h.cell.0 ≡ c)

  -- a record of a task that has ended
  abbrev pub IsOfEnded : Rec B → Type 0
  IsOfEnded r = ((f : Finish) × (r.finish ≡ Some f)) × (r.owned ≡ [])

  -- a record at home of a task in this phase: an unborn one is to be given Start; one that is ready too, or it has
  -- waited for a cell of which something has become; one that waits does so for the cell in PHASE; one that runs has
  -- ended, and PHASE is still to say so
  abbrev pub IsRecordIn : (ℕ → ℕ) → Phase → Rec B → Type 0
  IsRecordIn tag phase.Unborn r = (r.finish ≡ None) × (r.answer ≡ answer.Start)
  IsRecordIn tag phase.Ready r =
      (r.finish ≡ None) × ((r.answer ≡ answer.Start) ⊎ ((c : ℕ) × WaitsFor r c × (tag c ≢ 0)))
  IsRecordIn tag phase.Running r = IsOfEnded r
  IsRecordIn tag phase.Ended r = IsOfEnded r
  IsRecordIn tag phase.Promise r = ⊥
  IsRecordIn tag (phase.Waiting c way walk) r = (r.finish ≡ None) × WaitsFor r c.0

  -- each record at home fits its task's phase
  abbrev pub RecordsFit : (ℕ → ℕ) → (ℕ → Phase) → (ℕ → Option (Rec B)) → Type 0
  RecordsFit tag phase home = (t : ℕ) (r : Rec B) → home t ≡ Some r → IsRecordIn tag (phase t) r
