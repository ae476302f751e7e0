-- How PHASE changes: by the rows of the stores and of the exchanges alone, and some phases for good.
use Rattle.std.specs.Prelude.{◌≡◌, ◌⊎◌, ℕ, Bool}
use Rattle.tj_base.specs.declared.cell.CellId.{CellId}
use Rattle.tj_body.specs.Programs.{Program}
use Rattle.tj_events.specs.declared.walk.Way.{Way}
use Rattle.tj_words.specs.declared.phase.Walk.TheVariants as walk
use Rattle.tj_words.specs.declared.phase.Phase.{Phase}
use Rattle.tj_words.specs.declared.phase.Phase.TheVariants as phase
use Rattle.tj_words.specs.declared.table.Key.{Key}
use Rattle.tj_words.specs.CallLaws.CallRuns.{IsAskedStep}
use Rattle.tj_words.specs.CallLaws.RestedRuns.{Ruled}
use Rattle.tj_words.specs.LawParts.Contents.{Contents}
use Rattle.tj_runs.specs.Moments.{EverAfter, contents_at}

-- p may be stored where this phase stands: Ready or Promise over Unborn, a walk or Ended over Running, Parked or
-- Alarmed over the walk of the same wait
abbrev pub IsStoredOver : Phase → Phase → Type 0
IsStoredOver phase.Unborn p = (p ≡ phase.Ready) ⊎ (p ≡ phase.Promise)
IsStoredOver phase.Ready p = ⊥
IsStoredOver phase.Running p =
    (p ≡ phase.Ended) ⊎ ((c : CellId) × (way : Way) × (p ≡ phase.Waiting c way walk.Walking))
IsStoredOver phase.Ended p = ⊥
IsStoredOver phase.Promise p = ⊥
IsStoredOver (phase.Waiting c way walk.Walking) p =
    (p ≡ phase.Waiting c way walk.Parked) ⊎ (p ≡ phase.Waiting c way walk.Alarmed)
IsStoredOver (phase.Waiting c way walk.Parked) p = ⊥
IsStoredOver (phase.Waiting c way walk.Alarmed) p = ⊥

-- p may be exchanged for this phase: Running for Ready, and Ready or Running for Parked
abbrev pub IsExchangedFor : Phase → Phase → Type 0
IsExchangedFor phase.Unborn p = ⊥
IsExchangedFor phase.Ready p = p ≡ phase.Running
IsExchangedFor phase.Running p = ⊥
IsExchangedFor phase.Ended p = ⊥
IsExchangedFor phase.Promise p = ⊥
IsExchangedFor (phase.Waiting c way walk.Walking) p = ⊥
IsExchangedFor (phase.Waiting c way walk.Parked) p = (p ≡ phase.Ready) ⊎ (p ≡ phase.Running)
IsExchangedFor (phase.Waiting c way walk.Alarmed) p = ⊥

-- Ended, Promise and Alarmed are for good
abbrev pub IsForGood : Phase → Type 0
IsForGood phase.Unborn = ⊥
IsForGood phase.Ready = ⊥
IsForGood phase.Running = ⊥
IsForGood phase.Ended = Unit {0}
IsForGood phase.Promise = Unit {0}
IsForGood (phase.Waiting c way walk.Walking) = ⊥
IsForGood (phase.Waiting c way walk.Parked) = ⊥
IsForGood (phase.Waiting c way walk.Alarmed) = Unit {0}

module _ {B : Type 0} (x y : Contents B) where
  -- PHASE of each cell stays, or changes by a row of the stores or of the exchanges
  abbrev pub PhasesGoByRows : Type 0
  PhasesGoByRows = (c : ℕ) → (y.words.phase c ≡ x.words.phase c)
      ⊎ (IsStoredOver (x.words.phase c) (y.words.phase c) ⊎ IsExchangedFor (x.words.phase c) (y.words.phase c))

  -- a phase that is for good stays
  abbrev pub LastPhasesStay : Type 0
  LastPhasesStay = (c : ℕ) → IsForGood (x.words.phase c) → y.words.phase c ≡ x.words.phase c

-- at each step PHASE changes by these rows alone
abbrev pub StepsGoByRows : Type 0 → Type 0
StepsGoByRows B = (program : Bool → B → Program B) (key : Key B) (u w : Ruled program key)
    → IsAskedStep program key u.now w.now → PhasesGoByRows (contents_at program key u) (contents_at program key w)

-- Ended, Alarmed and Promise stay: so what alarmed once stands as Alarmed wherever the run rests
abbrev pub PhasesAreForGood : Type 0 → Type 0
PhasesAreForGood B = EverAfter B (λ program key u w.
    LastPhasesStay (contents_at program key u) (contents_at program key w))
