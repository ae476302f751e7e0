-- Printed names and counts.
use Rattle.std.specs.Prelude.{ℕ, List, [], ◌∷◌, ◌++◌, decimal}

-- a number of a name after its dot
abbrev pub part_text : ℕ → List ℕ
part_text number = 46 ∷ decimal number

-- the numbers of a name, each after its dot
abbrev pub parts_text : List ℕ → List ℕ
parts_text [] = []
parts_text (number ∷ numbers) = part_text number ++ parts_text numbers

-- the root is 0, and each further name goes on from there, as 0.3.1
abbrev pub name_text : List ℕ → List ℕ
name_text numbers = 48 ∷ parts_text numbers

-- a word and a number
abbrev pub counted : List ℕ → ℕ → List ℕ
counted word number = word ++ decimal number
