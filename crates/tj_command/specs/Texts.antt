-- The lines that are written in place of what a script gives.
use Rattle.std.specs.Prelude.{ℕ, List, ◌++◌, codes, decimal}
use Rattle.tj_lex.specs.declared.place.Place.{Place}

-- the fault of a script that has this letter and number, at this position
abbrev pub script_fault : List ℕ → Place → List ℕ
script_fault mark at =
    codes "script fault " ++ mark ++ codes " at " ++ decimal at.line ++ codes ":" ++ decimal at.column ++ codes "\n"

-- a script that needs more cells than these
abbrev pub full_line : ℕ → List ℕ
full_line cells = codes "full: more than " ++ decimal cells ++ codes " cells\n"
