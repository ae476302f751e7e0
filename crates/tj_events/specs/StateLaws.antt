-- The laws of the detector, of each state that meets the facts.
use Rattle.std.specs.Prelude.{◌≡◌, ◌⊎◌, ℕ, ◌*◌, ◌≤◌, List, ◌∷◌, Contains}
use Rattle.tj_events.specs.declared.walk.Way.{Way}
use Rattle.tj_events.specs.CoreState.{waits, alarmed, CoreState, stage, IfWalks}
use Rattle.tj_events.specs.Events.{Walks, IsOpen}
use Rattle.tj_events.specs.WaitGraph.{IsCycle}
use Rattle.tj_events.specs.CoreFacts.{CoreFacts}

-- t has alarmed
abbrev pub HasAlarmed : CoreState → ℕ → Type 0
HasAlarmed s t = (c : ℕ) × (way : Way) × (stage s.cells t ≡ waits c way alarmed)

-- t walks, and its walk is open
abbrev pub HasOpenWalk : CoreState → ℕ → Type 0
HasOpenWalk s t = Walks s t (λ c way w. IsOpen w)

-- a task that has alarmed is the first of a standing cycle
abbrev pub AlarmsAreOnCycles : Type 0
AlarmsAreOnCycles =
    (s : CoreState) (t : ℕ) → CoreFacts s → HasAlarmed s t → (ts : List ℕ) × IsCycle s.cells (t ∷ ts)

-- each standing cycle has a member that has alarmed or has an open walk
abbrev pub CyclesAreWatched : Type 0
CyclesAreWatched =
    (s : CoreState) (tasks : List ℕ)
    → CoreFacts s
    → IsCycle s.cells tasks
    → (u : ℕ) × Contains tasks u × (HasAlarmed s u ⊎ HasOpenWalk s u)

-- a walk with bound n has made at most 3n loads
abbrev pub LoadsAreBounded : Type 0
LoadsAreBounded = (s : CoreState) (t : ℕ) → CoreFacts s → IfWalks s.cells t (λ c way w. w.loads ≤ 3 * w.bound)
