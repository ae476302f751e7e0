-- Texts put together.
use Rattle.std.specs.Prelude.{ℕ, List, [], ◌∷◌, ◌++◌}

-- a text with further texts behind it
abbrev pub joined_onto : List ℕ → List (List ℕ) → List ℕ
joined_onto text [] = text
joined_onto text (x ∷ rest) = joined_onto (text ++ x) rest

-- the texts, one behind the other
abbrev pub joined : List (List ℕ) → List ℕ
joined [] = []
joined (x ∷ rest) = joined_onto x rest
