-- The numbers of a command line.
use Rattle.std.specs.Prelude.{ℕ, ◌≡◌, ◌≤◌, true, List, length, Option, MatchOption}
use Rattle.std.specs.Str.{all_ascii_digits}
use Rattle.std.specs.Str.Parse.{digits_value}

-- 1 to 10 decimal digits
pub record IsShortNumeral (digits : List ℕ) : Type 0 where
  pub some : 1 ≤ length digits
  pub few : length digits ≤ 10
  pub decimal : all_ascii_digits digits ≡ true

-- the number is from 1 to the greatest
abbrev pub IsUpTo : (most number : ℕ) → Type 0
IsUpTo most number = (1 ≤ number) × (number ≤ most)

-- the number of these digits, or none where it isn't from 1 to the greatest
abbrev pub IsNumberUpTo : (most : ℕ) (digits : List ℕ) → Option ℕ → Type 0
IsNumberUpTo most digits answer = MatchOption answer (IsUpTo most (digits_value 10 digits) → ⊥)
    (λ number. IsUpTo most number × (number ≡ digits_value 10 digits))
