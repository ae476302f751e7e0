-- The core state that the checker's lists show, each list a column of the cells.
use Rattle.std.specs.Prelude.{ℕ, suc, ◌<◌, ◌≤◌, List, length, map, Option, slice_index_or, vec_capacity}
use Rattle.tj_core.specs.declared.births.Birth.{Birth}
use Rattle.tj_core.specs.declared.slot.Slot.{Slot}
use Rattle.tj_events.specs.CoreState.{CellStage, promise, CellState, CoreState}
use Rattle.tj_core.specs.Inner.Births.{name_of, maker_of}
use Rattle.tj_core.specs.Inner.Owners.{owner_in}
use Rattle.tj_core.specs.Inner.Slots.{stage_of}

-- the stage of a cell
abbrev pub stage_in : List Slot → ℕ → CellStage
stage_in slots c = slice_index_or (map stage_of slots) c promise

-- the loads of a task's last walk
abbrev pub loads_in : List Slot → ℕ → ℕ
loads_in slots c = slice_index_or (map (λ slot. slot.loads) slots) c 0

-- the room of a slot's trail
abbrev pub room_in : List Slot → ℕ → ℕ
room_in slots c = slice_index_or (map (λ slot. vec_capacity slot.trail) slots) c 0

-- the trail of each slot has room for so many owners
abbrev pub HaveRoom : ℕ → List Slot → Type 0
HaveRoom n slots = (c : ℕ) → c < length slots → n ≤ room_in slots c

-- a cell
abbrev pub cell_in : List Birth → List ℕ → List (Option ℕ) → List Slot → ℕ → CellState
cell_in births made owners slots c = record {
  maker = maker_of births c;
  name = name_of births c;
  made = slice_index_or made c 0;
  owner = owner_in owners c;
  stage = stage_in slots c;
}

-- the core state
abbrev pub state_in : List Birth → List ℕ → List (Option ℕ) → List Slot → ℕ → ℕ → CoreState
state_in births made owners slots others cleared = record {
  count = suc (length births);
  cells = cell_in births made owners slots;
  others = others;
  cleared = cleared;
}
