-- Where two lists of numbers first differ.
use Rattle.std.specs.Prelude.{ℕ, List, [], ◌∷◌, Option, Some, None, cond, nat_eq}

-- the numbers of both at the first place at which they differ, if there is one before either ends
abbrev pub first_difference : List ℕ → List ℕ → Option (ℕ × ℕ)
first_difference [] b = None
first_difference (x ∷ a) [] = None
first_difference (x ∷ a) (y ∷ b) = cond (nat_eq x y) (first_difference a b) (Some (x, y))
