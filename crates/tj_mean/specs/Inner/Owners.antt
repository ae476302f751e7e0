-- Who owns each cell, kept in a map from names.
use Rattle.std.specs.Prelude.{◌≡◌, ℕ, true, false, List, Option, Some, None, slice_get}
use Rattle.tj_base.specs.ForkOrder.{Name}
use Rattle.tj_body.specs.Names.{has}
use Rattle.tj_mean.specs.Inner.NameMaps.{value_at}
use Rattle.tj_mean.specs.Outcomes.{owned_by}
use Rattle.tj_mean.specs.declared.name_map.NameMap.{NameMap}
use Rattle.tj_mean.specs.declared.stopped.Stopped.{Stopped}

-- the index that the map has for a cell
abbrev pub owner_in : NameMap ℕ → Name → Option ℕ
owner_in m q = value_at m q

-- the map has an index for each cell that one of the tasks owns and for no other, and the task with this index owns it
pub record AreOwners (tasks : List Stopped) (m : NameMap ℕ) : Type 0 where
  pub owns : (q : Name) (p : ℕ) → owner_in m q ≡ Some p
      → (s : Stopped) × (slice_get tasks p ≡ Some s) × (has q (owned_by s) ≡ true)
  pub none : (q : Name) → owner_in m q ≡ None → (p : ℕ) (s : Stopped) → slice_get tasks p ≡ Some s
      → has q (owned_by s) ≡ false
