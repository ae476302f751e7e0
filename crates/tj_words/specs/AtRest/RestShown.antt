-- What a closed table is seen as.
use Rattle.std.specs.Prelude.{◌≡◌, ◌↔◌, ℕ, ◌≤◌, Bool, List, length, get_or, Option, None}
use Rattle.tj_base.specs.declared.cell.TheConstants.{MAX_CELLS}
use Rattle.tj_words.specs.declared.closed.RestCell.{RestCell}
use Rattle.tj_words.specs.declared.phase.Phase.TheVariants.{Promise}
use Rattle.tj_record.specs.declared.record.Rec.{Rec}
use Rattle.tj_words.specs.AtRest.ClosedCells.{IsShown}

module _ {B : Type 0} where
  -- each cell has a slot, and the slots of promises are the empty ones
  pub record AreSlots (cells : List RestCell) (records : List (Option (Rec B))) : Type 0 where
    pub each : length cells ≤ length records
    pub few : length records ≤ MAX_CELLS
    pub promises : (c : ℕ) (x : RestCell) → IsShown cells c x → (get_or records c None ≡ None) ↔ (x.phase ≡ Promise)

-- the cells, all words of the table, a slot for each of so many cells with the record of its task, and the program: its
-- root's body, and whether the rule is strict
pub record RestShown (B : Type 0) : Type 0 where
  pub cells : List RestCell
  pub words : List ℕ
  pub records : List (Option (Rec B))
  pub limit : ℕ
  pub root : B
  pub strict : Bool
