-- The wait graph of a state, and the cycles that stand in it.
use Rattle.std.specs.Prelude.{◌≡◌, ℕ, nat_eq, List, Some}
use Rattle.tj_base.specs.Cycles as cycles
use Rattle.tj_events.specs.CoreState.{Cells, owner, wait}

-- t leads to u: t waits for a cell that u owns
abbrev pub Leads : Cells → ℕ → ℕ → Type 0
Leads cells t u = (c : ℕ) × (wait cells t ≡ Some c) × (owner cells c ≡ Some u)

-- t leads to the first of the tasks, each of them to the next, and the last to the end
abbrev pub LeadsAlong : Cells → ℕ → List ℕ → ℕ → Type 0
LeadsAlong cells = cycles.LeadsAlong (Leads cells)

-- a standing cycle: distinct tasks, each leading to the next and the last to the first
abbrev pub IsCycle : Cells → List ℕ → Type 0
IsCycle cells = cycles.IsCycle (Leads cells) nat_eq

-- u is reached from t by k steps of the wait graph
abbrev pub Reaches : Cells → ℕ → ℕ → ℕ → Type 0
Reaches cells = cycles.Reaches (Leads cells)

-- t is on a standing cycle of n tasks, as it is reached from itself by n steps and by no fewer
abbrev pub IsOnCycleOf : Cells → ℕ → ℕ → Type 0
IsOnCycleOf cells = cycles.IsOnCycleOf (Leads cells)

-- t is on a standing cycle
abbrev pub IsOnCycle : Cells → ℕ → Type 0
IsOnCycle cells = cycles.IsOnCycle (Leads cells)

-- a standing cycle whose first task is t
abbrev pub IsCycleFrom : Cells → ℕ → List ℕ → Type 0
IsCycleFrom cells = cycles.IsCycleFrom (Leads cells) nat_eq
