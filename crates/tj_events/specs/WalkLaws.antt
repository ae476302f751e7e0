-- What a walk may rely on, in each state that meets the facts.
use Rattle.std.specs.Prelude.{◌≡◌, ◌≢◌, ℕ, ◌+◌, ◌<◌, ◌≤◌, Some}
use Rattle.tj_events.specs.declared.walk.LastRead.TheVariants.{SawOwner}
use Rattle.tj_events.specs.CoreState.{CoreState, owner, stage, present, IfWalks}
use Rattle.tj_events.specs.Events.{Walks, MaySettle}
use Rattle.tj_events.specs.WaitGraph.{Reaches, IsOnCycleOf}
use Rattle.tj_events.specs.Facts.{Watches}
use Rattle.tj_events.specs.CoreFacts.{CoreFacts}

-- a walker's present cell is there
abbrev pub PresentCellsAreThere : Type 0
PresentCellsAreThere =
    (s : CoreState) (t : ℕ) → CoreFacts s → IfWalks s.cells t (λ c way w. present c w.trail < s.count)

-- a cell's owner is there
abbrev pub OwnersAreThere : Type 0
OwnersAreThere = (s : CoreState) (c u : ℕ) → CoreFacts s → owner s.cells c ≡ Some u → u < s.count

-- an owner that a walker has just read is there
abbrev pub ReadOwnersAreThere : Type 0
ReadOwnersAreThere =
    (s : CoreState) (t u : ℕ) → CoreFacts s → IfWalks s.cells t (λ c way w. w.last ≡ SawOwner (Some u) → u < s.count)

-- OTHERS is at most the number of cells and of the waits cleared and not yet lowered
abbrev pub OthersAreFew : Type 0
OthersAreFew = (s : CoreState) → CoreFacts s → s.others ≤ s.count + s.cleared

-- a cycle through a task whose walk may settle has another member that has alarmed or is on course
abbrev pub SettlersAreNotAlone : Type 0
SettlersAreNotAlone =
    (s : CoreState) (t n : ℕ)
    → CoreFacts s
    → Walks s t (λ c way w. MaySettle w)
    → IsOnCycleOf s.cells t n
    → (k u : ℕ) × Reaches s.cells t k u × (u ≢ t) × Watches s.cells n (stage s.cells u)
