use Rattle.std.proofs.Common.{◌≡◌, ◌<◌, ◌≤◌, ℕ, length, vec_capacity, vec_len}
use mathlib.Core.Option.{some}
use lib.ListN.{get_elem?}
use Rattle.std.specs.Slots.{slots_items}
use Rattle.tj_words.specs.AtRest.ShownCells.{cell_of}
use Rattle.tj_words.proofs.rest.show_cells.Given as goal

-- the cells that are done are shown, and there is room for the others
abbrev pub invariant-loop-c : goal.invariant-loop-c
invariant-loop-c g l = (length l.room.items ≡ l.c) × (vec_len l.room ≡ l.c) × (l.cells ≤ vec_capacity l.room)
    × ((c : ℕ) → c < l.c → get_elem? l.room.items c ≡ some (cell_of (slots_items l.table.words) c))
