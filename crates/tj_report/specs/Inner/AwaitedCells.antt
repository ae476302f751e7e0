-- The cells for which tasks wait, from their records and words, and who owns them.
use Rattle.std.specs.Prelude.{◌≡◌, ℕ, List, length, get_or, Option, Some, None, slice_get, unwrap_or}
use Rattle.std.specs.Option.{option_map}
use Rattle.tj_base.specs.declared.cell.CellId.{CellId}
use Rattle.tj_body.specs.declared.ask.Answer.{Answer}
use Rattle.tj_body.specs.declared.ask.Answer.TheVariants as answer
use Rattle.tj_mean.specs.declared.outcome.Link.{Link}
use Rattle.tj_words.specs.AtRest.ClosedCells.{IsShown}
use Rattle.tj_words.specs.LawParts.Telling.{ArePairs}
use Rattle.tj_words.specs.Words.Lists.{cell}
use Rattle.tj_words.specs.declared.closed.RestCell.{RestCell}
use Rattle.tj_record.specs.declared.record.Finish.{Finish}
use Rattle.tj_record.specs.declared.record.Held.{Held}
use Rattle.tj_record.specs.declared.record.Rec.{Rec}
use Rattle.tj_report.specs.Inner.CellNamesBy.{name_by}
use Rattle.tj_report.specs.Inner.ToldRecords.{IsRecordBelow}

-- the cell that is held at a place
abbrev pub held_at : List Held → ℕ → Option CellId
held_at held k = option_map (λ (h : Held). h.cell) (slice_get held k)

-- the cell at the place that is the answer, in a task that hasn't ended
abbrev pub wait_in : Answer → List Held → Option CellId
wait_in (answer.RefAt k) held = held_at held k
wait_in _ held = None

-- the cell for which a task waits, if it does
abbrev pub wait_by : Option Finish → Answer → List Held → Option CellId
wait_by (Some f) a held = None
wait_by None a held = wait_in a held

-- the index of a cell
abbrev pub rank_by : List (Option ℕ) → Option CellId → Option ℕ
rank_by ranks None = None
rank_by ranks (Some c) = get_or ranks c.0 None

-- for each of these cells the list has its index, and for no other cell
pub record AreRanks (order : List ℕ) (ranks : List (Option ℕ)) : Type 0 where
  pub sound : (c p : ℕ) → get_or ranks c None ≡ Some p → slice_get order p ≡ Some c
  pub all : (c p : ℕ) → slice_get order p ≡ Some c → (k : ℕ) × (get_or ranks c None ≡ Some k)

module _ {B : Type 0} where
  -- the same of the task with this record
  abbrev pub awaited_by : Rec B → Option CellId
  awaited_by r = wait_by r.finish r.answer r.held

  -- the same of the task in a slot, and the root where none waits
  abbrev pub awaited_in : Option (Rec B) → CellId
  awaited_in None = cell 0
  awaited_in (Some r) = unwrap_or (awaited_by r) (cell 0)

  module _ (shown : List RestCell) (records : List (Option (Rec B))) where
    -- each cell that a record names is among those that are shown
    abbrev pub AreRecordsBelow : Type 0
    AreRecordsBelow = (c : ℕ) (r : Rec B) → get_or records c None ≡ Some r → IsRecordBelow (length shown) r

    -- the task of this cell, with the cell for which it waits
    abbrev pub link_by : ℕ → Link
    link_by c = record { task = name_by shown c; cell = name_by shown (awaited_in (get_or records c None)).0 }

    -- this is the owner of the cell, if it is one
    abbrev pub IsOwnOf : Option CellId → Option CellId → Type 0
    IsOwnOf None o = o ≡ None
    IsOwnOf (Some c) o = (x : RestCell) → IsShown shown c.0 x → o ≡ x.own

    -- this is the owner of the cell for which the task of cell t waits, if it waits
    abbrev pub IsOwnerAt : ℕ → Option CellId → Type 0
    IsOwnerAt t o = (r : Rec B) → get_or records t None ≡ Some r → IsOwnOf (awaited_by r) o

    -- this is the index of that owner
    abbrev pub IsNextAt : List (Option ℕ) → ℕ → Option ℕ → Type 0
    IsNextAt ranks t n = (o : Option CellId) × IsOwnerAt t o × (n ≡ rank_by ranks o)

    -- for each of these tasks the list has the index of the owner of the cell for which it waits
    abbrev pub AreNextBy : List (Option ℕ) → List ℕ → List (Option ℕ) → Type 0
    AreNextBy ranks order next = ArePairs (IsNextAt ranks) order next
