-- The stores of PHASE: what each needs of the seat, and what it makes of it, by the phase that is stored.
use Rattle.std.specs.Prelude.{◌≡◌, ℕ, ◌<◌, Bool}
use Rattle.atomic_table.specs.Table.{rest}
use Rattle.tj_body.specs.Programs.{Program}
use Rattle.tj_words.specs.declared.phase.Phase.{Phase}
use Rattle.tj_words.specs.declared.phase.Phase.TheVariants as phase
use Rattle.tj_words.specs.Calls.DrawViews.{MayMark, marked_promise}
use Rattle.tj_words.specs.Calls.LiveViews.{MayRelease, MayEnd, released, ended, homed}
use Rattle.tj_words.specs.SeatViews.SeatSteps.{SeatMe}
use Rattle.tj_words.specs.Calls.WaitViews.{MayPutWait, PutsWait}

-- where the phase is a wait, it is for one of so many cells
abbrev pub WaitsBelow : ℕ → Phase → Type 0
WaitsBelow cells phase.Unborn = Unit {0}
WaitsBelow cells phase.Ready = Unit {0}
WaitsBelow cells phase.Running = Unit {0}
WaitsBelow cells phase.Ended = Unit {0}
WaitsBelow cells phase.Promise = Unit {0}
WaitsBelow cells (phase.Waiting c way walk) = c.0 < cells

module _ {B : Type 0} where
  -- when a seat may store this phase of t: nobody stores Unborn or Running
  abbrev pub MayPutPhase : (Bool → B → Program B) → ℕ → Phase → SeatMe B → Type 0
  MayPutPhase program t phase.Unborn me = ⊥
  MayPutPhase program t phase.Ready me = MayRelease t me.0
  MayPutPhase program t phase.Running me = ⊥
  MayPutPhase program t phase.Ended me = MayEnd program t me
  MayPutPhase program t phase.Promise me = MayMark t me.0
  MayPutPhase program t (phase.Waiting c way walk) me = MayPutWait program t c.0 way walk me

  -- what the store makes of the seat: where the task is parked or has ended, its slot is given back, and the record in
  -- it is home
  abbrev pub PutsPhase : ℕ → Phase → SeatMe B → SeatMe B → Type 0
  PutsPhase t phase.Unborn me me' = ⊥
  PutsPhase t phase.Ready me me' = me' ≡ (released t me.0, me.1)
  PutsPhase t phase.Running me me' = ⊥
  PutsPhase t phase.Ended me me' = me' ≡ (homed me.1 (ended t me.0), rest me.1)
  PutsPhase t phase.Promise me me' = me' ≡ (marked_promise me.0, me.1)
  PutsPhase t (phase.Waiting c way walk) me me' = PutsWait t c.0 way walk me me'
