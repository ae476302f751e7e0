-- Which tasks of a round are still to be taken.
use Rattle.std.specs.Prelude.{ℕ, zero, suc, List, [], ◌∷◌, ◌++◌}
use Rattle.std.specs.List.{flat_map}
use Rattle.tj_body.specs.Programs.{Rules}
use Rattle.tj_body.specs.History.{Assignment}
use Rattle.tj_body.specs.Rounds.{family}
use Rattle.tj_body.specs.declared.point.Task.{Task}
use Rattle.tj_mean.specs.declared.round.Pending.{Pending}

module _ {B : Type 0} (rules : Rules B) (V : Assignment) where
  -- the children with all that come from them, where so many forks after one another are followed
  abbrev pub offspring : ℕ → List (Task B) → List (Task B)
  offspring zero children = []
  offspring (suc d) children = flat_map (family rules V d) children

  -- the pending tasks with all that come from them; the last one is taken first
  abbrev pub still : List (Pending B) → List (Task B)
  still [] = []
  still (w ∷ ws) = still ws ++ family rules V w.depth w.task
