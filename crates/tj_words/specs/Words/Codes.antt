-- The values that stand in the words.
use Rattle.std.specs.Prelude.{◌≡◌, ◌⊎◌, ℕ, ◌<◌, ◌≤◌, ◌^◌, List}
use Rattle.tj_base.specs.declared.cell.CellId.{CellId}
use Rattle.tj_events.specs.declared.walk.Way.{Way}
use Rattle.tj_words.specs.declared.offsets.Once.TheVariants as once
use Rattle.tj_words.specs.declared.phase.Walk.{Walk}
use Rattle.tj_words.specs.declared.phase.Phase.TheVariants as phase
use Rattle.tj_words.specs.Words.Offsets.{word, own_at, phase_at, once_at, head_at, next_at, stop_at}
use Rattle.tj_words.specs.Words.Phases.{phase_word, phase_in}
use Rattle.tj_words.specs.Words.Heads.{shut_word}

-- the word is PHASE of some cell; where it is one that waits, it waits for one of so many cells
pub record IsPhaseWord (cells word : ℕ) : Type 0 where
  pub code : phase_word (phase_in word) ≡ word
  pub waits : (c : CellId) (way : Way) (walk : Walk) → phase_in word ≡ phase.Waiting c way walk → c.0 < cells

-- the words of a cell, where there are so many cells
pub record AreCellWords (cells : ℕ) (words : List ℕ) (c : ℕ) : Type 0 where
  pub own : word words (own_at c) ≤ cells
  pub phase : IsPhaseWord cells (word words (phase_at c))
  pub tag : word words (once_at c once.Tag) ≤ 4
  pub parent : word words (once_at c once.Parent) ≤ cells
  pub kid : word words (once_at c once.Kid) < 2 ^ 32
  pub depth : word words (once_at c once.Depth) ≤ cells
  pub jump : word words (once_at c once.Jump) ≤ cells
  pub head : (word words (head_at c) ≡ shut_word) ⊎ (word words (head_at c) ≤ cells)
  pub next : word words (next_at c) ≤ cells

-- each word is one that may stand in its place
pub record Codes (cells : ℕ) (words : List ℕ) : Type 0 where
  pub stop : word words stop_at ≤ 2
  pub each : (c : ℕ) → c < cells → AreCellWords cells words c
