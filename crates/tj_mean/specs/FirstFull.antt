-- The first round that has more cells than a limit.
use Rattle.std.specs.Prelude.{ℕ, ◌<◌, ◌≤◌, length}
use Rattle.tj_body.specs.Programs.{Program}
use Rattle.tj_body.specs.Rounds.{cells}

-- round n has more than N cells, and each round before it has at most N
pub record IsFirstFull {B : Type 0} (program : Program B) (N n : ℕ) : Type 0 where
  pub full : N < length (cells program n)
  pub first : (m : ℕ) → m < n → length (cells program m) ≤ N
