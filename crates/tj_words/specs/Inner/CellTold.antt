-- What a step on a word of a cell tells of the cell.
use Rattle.std.specs.Prelude.{ℕ}
use Rattle.tj_words.specs.Inner.IndexWords.{cell_at}
use Rattle.tj_words.specs.SeatViews.SeatSteps.{Tells}

-- what a step tells of the cell of its word, in a table of so many cells as it has slots
abbrev pub of_its_cell : {B : Type 0} → (ℕ → ℕ → Tells B) → Tells B
of_its_cell T st = T st.slots (cell_at st.word) st
