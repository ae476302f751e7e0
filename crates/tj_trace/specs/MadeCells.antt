-- Which statement made each cell of a round, and which made most of the first ones.
use Rattle.std.specs.Prelude.{◌≡◌, ℕ, suc, List, [], ◌∷◌, Some, slice_get, take}
use Rattle.tj_base.specs.ForkOrder.{Name, child}
use Rattle.tj_body.specs.History.{history}
use Rattle.tj_body.specs.Points.{IsIn}
use Rattle.tj_body.specs.Programs.{Program}
use Rattle.tj_body.specs.Rounds.{given, tasks}
use Rattle.tj_body.specs.declared.point.Task.{Task}
use Rattle.tj_trace.specs.declared.line.Maker.{Maker}
use Rattle.tj_trace.specs.Logs.{Logged}

-- the cell is a thing that a task of round n + 1 made, and this is what its history notes of that thing
pub record IsMadeBy (program : Program Logged) (n : ℕ) (q : Name) (m : Maker) : Type 0 where
  pub task : Task Logged
  pub of_round : IsIn task (tasks program (suc n))
  pub thing : ℕ
  pub named : q ≡ child task.name (suc thing)
  pub noted : slice_get (history program.rules (given program n) task).body.makers thing ≡ Some m

-- so it is of each of these cells, one after another
abbrev pub AreMadeBy : Program Logged → ℕ → List Name → List Maker → Type 0
AreMadeBy program n [] [] = Unit {0}
AreMadeBy program n [] (m ∷ ms) = ⊥
AreMadeBy program n (q ∷ qs) [] = ⊥
AreMadeBy program n (q ∷ qs) (m ∷ ms) = IsMadeBy program n q m × AreMadeBy program n qs ms
