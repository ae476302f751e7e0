-- What the words of a table show of a cell once they are closed.
use Rattle.std.specs.Prelude.{◌≡◌, ℕ, zero, suc, ◌<◌, ◌≤◌, min, List, length, Option, Some, None}
use mathlib.Core.Option.{some}
use lib.ListN.{get_elem?}
use Rattle.tj_base.specs.declared.cell.CellId.{CellId}
use Rattle.tj_base.specs.declared.cell.TheConstants.{MAX_CELLS}
use Rattle.tj_words.specs.declared.closed.RestCell.{RestCell}
use Rattle.tj_words.specs.declared.offsets.Once.TheVariants.{Tag, Parent, Kid}
use Rattle.tj_words.specs.Words.Codes.{Codes}
use Rattle.tj_words.specs.Words.Lists.{cell}
use Rattle.tj_words.specs.Words.Offsets.{word, words_for, count_at, own_at, phase_at, once_at}
use Rattle.tj_words.specs.Words.Phases.{phase_in}

-- the words of a table of so many cells, each of which may stand in its place
pub record AreTableWords (cells : ℕ) (words : List ℕ) : Type 0 where
  pub all : length words ≡ words_for cells
  pub few : cells ≤ MAX_CELLS
  pub codes : Codes cells words

-- the cell of a word OWN
abbrev pub task_in : ℕ → Option CellId
task_in zero = None
task_in (suc t) = Some (cell t)

-- the cell of a word PARENT: the root's is the root
abbrev pub maker_in : ℕ → CellId
maker_in zero = cell 0
maker_in (suc t) = cell t

-- what the words show of a cell
abbrev pub cell_of : List ℕ → ℕ → RestCell
cell_of words c = record {
  own = task_in (word words (own_at c));
  phase = phase_in (word words (phase_at c));
  tag = word words (once_at c Tag);
  parent = maker_in (word words (once_at c Parent));
  kid = word words (once_at c Kid);
}

-- this is what the words show of the cells that are drawn, where there are so many cells
pub record AreCellsOf (words : List ℕ) (cells : ℕ) (shown : List RestCell) : Type 0 where
  pub all : length shown ≡ min (word words count_at) cells
  pub each : (c : ℕ) → c < length shown → get_elem? shown c ≡ some (cell_of words c)
