-- Stops: STOP is what some seat stored, and stays above 0; what a seat loaded from it some seat had stored.
use Rattle.std.specs.Prelude.{◌≢◌, ℕ, List}
use Rattle.tj_body.specs.Points.{IsIn}
use Rattle.tj_words.specs.Words.Lists.{Each, OfSeat}

-- some seat has stored the number
abbrev pub IsStored : List (List ℕ) → ℕ → Type 0
IsStored stored n = (j : ℕ) × OfSeat (IsIn n) stored j

-- STOP, what each seat stored there, and what each seat loaded from there
pub record Stops (stop : ℕ) (stored told : List (List ℕ)) : Type 0 where
  pub given : stop ≢ 0 → IsStored stored stop
  pub stands : Each (λ j ns. (n : ℕ) → IsIn n ns → stop ≢ 0) stored
  pub found : Each (λ j ns. (n : ℕ) → IsIn n ns → n ≢ 0 → IsStored stored n) told
