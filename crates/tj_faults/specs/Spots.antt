-- How a text tells a position.
use Rattle.std.specs.Prelude.{ℕ, List, ◌++◌, codes, decimal, Option, Some, None}
use Rattle.tj_lex.specs.declared.place.Place.{Place}

-- a position
abbrev pub place_text : Place → List ℕ
place_text p = decimal p.line ++ codes ":" ++ decimal p.column

-- its position, and a question mark where there is none
abbrev pub found_text : Option Place → List ℕ
found_text None = codes "?"
found_text (Some p) = place_text p
