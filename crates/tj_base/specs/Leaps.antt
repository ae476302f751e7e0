-- Leaps over the last 64 numbers of a name, by which long names are compared.
use Rattle.std.specs.Prelude.{ℕ, ◌≡◌, ◌++◌, List, length}

-- a leap has the last 64 numbers of a name, and what stands before them
pub record IsLeap (whole before numbers : List ℕ) : Type 0 where
  pub whole_is : whole ≡ before ++ numbers
  pub length_is : length numbers ≡ 64
