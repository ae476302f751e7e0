-- Cycles of a wait graph by indexes, and tasks that wait.
use Rattle.std.specs.Prelude.{◌≡◌, ℕ, ◌≤◌, nat_eq, List, Option, Some, slice_get}
use Rattle.std.specs.List.{All}
use Rattle.tj_base.specs.Cycles as graph
use Rattle.tj_base.specs.ForkOrder.{Name}
use Rattle.tj_mean.specs.WaitIndexes.{Next}
use Rattle.tj_mean.specs.declared.outcome.Ending.TheVariants as ending
use Rattle.tj_mean.specs.declared.stopped.Stopped.{Stopped}

-- a cycle of indexes from its first on, which is its least
pub record IsLeastCycle (next : List (Option ℕ)) (first : ℕ) (indexes : List ℕ) : Type 0 where
  pub cycle : graph.IsCycleFrom (Next next) nat_eq first indexes
  pub least : All (λ p. first ≤ p) indexes

-- the task waits
abbrev pub Waiting : Stopped → Type 0
Waiting s = (q : Name) × (s.line.ending ≡ ending.Waits q)

-- the task with this index waits
abbrev pub WaitsAt : List Stopped → ℕ → Type 0
WaitsAt tasks p = (s : Stopped) × (slice_get tasks p ≡ Some s) × Waiting s
