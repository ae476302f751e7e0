-- The names of the cells as a list, in the order of their numbers.
use Rattle.std.specs.Prelude.{◌≡◌, ℕ, ◌<◌, List, [], ◌∷◌, get_or}
use Rattle.tj_base.specs.ForkOrder.{Name, child}
use Rattle.tj_base.specs.declared.cell.CellId.{CellId}
use Rattle.tj_body.specs.declared.point.Reference.{Reference}
use Rattle.tj_words.specs.AtRest.ClosedCells.{AreNamed}
use Rattle.tj_words.specs.AtRest.RestMeaning.{names}
use Rattle.tj_words.specs.declared.closed.RestCell.{RestCell}

-- the cell is one of the first n
abbrev pub IsBelow : ℕ → CellId → Type 0
IsBelow n c = c.0 < n

-- the name of the cell after those of these names, by its maker and its number; the root is the first
abbrev pub next_name : List Name → RestCell → Name
next_name [] x = []
next_name (q ∷ qs) x = child (get_or (q ∷ qs) x.parent.0 []) x.kid

-- the name of a cell
abbrev pub name_in : List Name → CellId → Name
name_in ns c = get_or ns c.0 []

-- by PARENT and KID, these are the names of the cells
abbrev pub AreNames : List RestCell → List Name → Type 0
AreNames shown ns = (born : List Reference) → AreNamed shown born → ns ≡ names born
