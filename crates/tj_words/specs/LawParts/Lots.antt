-- Lots: how much of the room of COUNT, LIVE and OTHERS each seat has.
use Rattle.std.specs.Prelude.{Option, ◌≡◌, ◌⊎◌, ℕ, ◌+◌, ◌≤◌, ◌^◌, min, List, [], None}
use Rattle.tj_words.specs.declared.view.About.{About}
use Rattle.tj_words.specs.declared.view.Custody.{Custody}
use Rattle.tj_words.specs.declared.view.View.{View}
use Rattle.tj_words.specs.Words.Lists.{total}

-- the lots of all seats together
abbrev pub all_lots : ℕ
all_lots = 2 ^ 20

-- the least lot
abbrev pub least_lot : ℕ
least_lot = 4

-- a view that another seat has taken in: it names no program, and holds no task
-- (it holds none, or no words at rest could show that no task is unborn)
abbrev pub IsSpent : {B : Type 0} → View B → Type 0
IsSpent v = (v.about ≡ None) × (v.tasks ≡ [])

-- a lot is at least 4, but in a spent view; the refused draws, the tokens, and the waits cleared and not yet lowered
-- are each at most the lot
pub record WithinLot {B : Type 0} (about : Option (About B)) (tasks : List (Custody B))
    (lot refused tokens cleared : ℕ) : Type 0 where
  pub least : ((about ≡ None) × (tasks ≡ [])) ⊎ (least_lot ≤ lot)
  pub refused_fit : refused ≤ lot
  pub tokens_fit : tokens ≤ lot
  pub cleared_fit : cleared ≤ lot

-- the same of a view
abbrev pub IsWithinLot : {B : Type 0} → View B → Type 0
IsWithinLot v = WithinLot v.about v.tasks v.lot v.refused v.tokens v.cleared

-- the lots add up, and COUNT is the number of cells that are there and the refused draws
pub record Lots (cells count : ℕ) (lots refused : List ℕ) : Type 0 where
  pub all : total lots ≡ all_lots
  pub counted : count ≡ min count cells + total refused
