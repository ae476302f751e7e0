-- The names of the cells as a function of what the words show of them.
use Rattle.std.specs.Prelude.{ℕ, List, [], ◌∷◌, ◌++◌, get_or}
use Rattle.tj_base.specs.ForkOrder.{Name}
use Rattle.tj_words.specs.declared.closed.RestCell.{RestCell}
use Rattle.tj_report.specs.Inner.CellNames.{next_name}

-- these names, and behind them those of these cells
abbrev pub names_from : List Name → List RestCell → List Name
names_from ns [] = ns
names_from ns (x ∷ xs) = names_from (ns ++ next_name ns x ∷ []) xs

-- the names of the cells, in the order of their numbers
abbrev pub names_by : List RestCell → List Name
names_by shown = names_from [] shown

-- the name of the cell with this number
abbrev pub name_by : List RestCell → ℕ → Name
name_by shown c = get_or (names_by shown) c []
