-- The cell with a name, by PARENT and KID, and what its words show of its value.
use Rattle.std.specs.Prelude.{◌≡◌, ◌≢◌, ℕ, ◌<◌, cond, nat_eq, List, length, Option, Some, None}
use Rattle.tj_base.specs.ForkOrder.{Name}
use Rattle.tj_base.specs.declared.cell.CellId.{CellId}
use Rattle.tj_words.specs.AtRest.ClosedCells.{IsShown}
use Rattle.tj_words.specs.AtRest.RestValues.{value_shown}
use Rattle.tj_words.specs.declared.closed.RestCell.{RestCell}
use Rattle.tj_record.specs.declared.record.Fill.{Fill}
use Rattle.tj_report.specs.Inner.CellNamesBy.{name_by, names_by}
use Rattle.tj_report.specs.Inner.ToldRecords.{shown_by}
use Rattle.tj_report.specs.declared.named_values.Became.{Became}
use Rattle.tj_report.specs.declared.named_values.Became.TheVariants as became

-- the cell has this name, and there is none where no cell has it
abbrev pub IsCellNamed : List RestCell → Name → Option CellId → Type 0
IsCellNamed shown q None = (c : ℕ) → c < length shown → name_by shown c ≢ q
IsCellNamed shown q (Some c) = (c.0 < length shown) × (name_by shown c.0 ≡ q)

-- what became of a cell without a value, by its TAG
abbrev pub without_value : ℕ → Became
without_value tag = cond (nat_eq tag 0) became.Open became.Broken

-- what became of a cell with this value and this TAG
abbrev pub became_by : List Name → Option Fill → ℕ → Became
became_by ns (Some f) tag = became.Value (shown_by ns f)
became_by ns None tag = without_value tag

-- the words show this of cell c
abbrev pub BecameHere : List RestCell → List ℕ → ℕ → Became → Type 0
BecameHere shown words c b = (x : RestCell) × IsShown shown c x
    × (b ≡ became_by (names_by shown) (value_shown words c) x.tag)
