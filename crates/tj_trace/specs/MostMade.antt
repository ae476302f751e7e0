-- The statement that made most of the first cells of the first round that has more than a limit.
use Rattle.std.specs.Prelude.{◌≡◌, ℕ, suc, List, [], ◌∷◌, take}
use Rattle.tj_base.specs.ForkOrder.{Name}
use Rattle.tj_body.specs.Programs.{Program}
use Rattle.tj_body.specs.Rounds.{cells}
use Rattle.tj_mean.specs.FirstFull.{IsFirstFull}
use Rattle.tj_trace.specs.Logs.{Logged}
use Rattle.tj_trace.specs.MadeCells.{AreMadeBy}
use Rattle.tj_trace.specs.MostOf.{IsMostOf}
use Rattle.tj_trace.specs.declared.line.Maker.{Maker}
use Rattle.tj_trace.specs.declared.most.Most.{Most}

-- the statement made most of the first N + 1 cells of the first round that has more than N, tasks taken in name order,
-- each with its promises behind it; of these the root's result is the first, which no statement made
pub record IsMostMade (program : Program Logged) (N : ℕ) (most : Most) : Type 0 where
  pub round : ℕ
  pub is_first : IsFirstFull program N (suc round)
  pub others : List Name
  pub first_cells : take (suc N) (cells program (suc round)) ≡ [] ∷ others
  pub makers : List Maker
  pub are_made : AreMadeBy program round others makers
  pub is_most : IsMostOf makers most
