-- The laws of the detector, over legal runs.
use Rattle.std.specs.Prelude.{◌⊎◌, ℕ, ◌*◌, ◌≤◌, List, [], ◌∷◌, ◌++◌, Contains}
use Rattle.tj_base.specs.declared.cell.CellId.{CellId}
use Rattle.tj_events.specs.declared.event.Event.{Event}
use Rattle.tj_events.specs.declared.event.Event.TheVariants.{Publish, Settle}
use Rattle.tj_events.specs.CoreState.{CoreState, root_alone, IfWalks}
use Rattle.tj_events.specs.Runs.{after_all, IsLegalRun}
use Rattle.tj_events.specs.WaitGraph.{IsCycle, IsOnCycle}
use Rattle.tj_events.specs.StateLaws.{HasAlarmed, HasOpenWalk}

-- the state after these events from the root alone
abbrev pub run_to : List Event → CoreState
run_to es = after_all root_alone es

-- in every legal run a task settles only where no cycle through it stood just after it had published
abbrev pub LegalSettlesAreOffCycles : Type 0
LegalSettlesAreOffCycles =
    (N : ℕ) (before between : List Event) (t p : CellId)
    → IsLegalRun N (before ++ Publish t p ∷ (between ++ Settle t ∷ []))
    → ¬ IsOnCycle (run_to (before ++ Publish t p ∷ [])).cells t.0

-- in every legal run a standing cycle stands ever after
abbrev pub LegalCyclesStand : Type 0
LegalCyclesStand =
    (N : ℕ) (es later : List Event) (tasks : List ℕ)
    → IsLegalRun N (es ++ later)
    → IsCycle (run_to es).cells tasks
    → IsCycle (run_to (es ++ later)).cells tasks

-- in every legal run a task that has alarmed is the first of a standing cycle, then and ever after
abbrev pub LegalAlarmsAreOnCycles : Type 0
LegalAlarmsAreOnCycles =
    (N : ℕ) (es later : List Event) (t : ℕ)
    → IsLegalRun N (es ++ later)
    → HasAlarmed (run_to es) t
    → (ts : List ℕ) × IsCycle (run_to es).cells (t ∷ ts) × IsCycle (run_to (es ++ later)).cells (t ∷ ts)

-- in every legal run each standing cycle has a member that has alarmed or has an open walk
abbrev pub LegalCyclesAreWatched : Type 0
LegalCyclesAreWatched =
    (N : ℕ) (es : List Event) (tasks : List ℕ)
    → IsLegalRun N es
    → IsCycle (run_to es).cells tasks
    → (u : ℕ) × Contains tasks u × (HasAlarmed (run_to es) u ⊎ HasOpenWalk (run_to es) u)

-- in every legal run a walk with bound n has made at most 3n loads
abbrev pub LegalLoadsAreBounded : Type 0
LegalLoadsAreBounded =
    (N : ℕ) (es : List Event) (t : ℕ)
    → IsLegalRun N es
    → IfWalks (run_to es).cells t (λ c way w. w.loads ≤ 3 * w.bound)
