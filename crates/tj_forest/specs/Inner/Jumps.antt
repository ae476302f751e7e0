-- Steps by the numbers of lines, of which one jump is many.
use Rattle.std.specs.Prelude.{◌≡◌, ◌<◌, ℕ, List, length, get_or, slice_get, Option, Some}
use Rattle.tj_trace.specs.declared.line.TraceLine.{TraceLine}
use Rattle.tj_findings.specs.Onward.{onward}

-- the number to which a jump from this one leads: itself where none is told
abbrev pub jump : List ℕ → ℕ → ℕ
jump jumps n = get_or jumps n n

-- a list of i elements, each of which suits its number; past its end d stands for one
pub record AreEach {A : Type 0} (P : ℕ → A → Type 0) (d : ℕ → A) (i : ℕ) (xs : List A) : Type 0 where
  pub each : length xs ≡ i
  pub holds : (n : ℕ) → n < i → P n (get_or xs n (d n))

-- for the number of each line the list has the number of that which is 2 ^ k steps on
pub record AreJumps (lines : List TraceLine) (f : TraceLine → Option TraceLine) (k : ℕ) (jumps : List ℕ) :
    Type 0 where
  pub each : length jumps ≡ length lines
  pub leads : (n : ℕ) (l : TraceLine) → slice_get lines n ≡ Some l
      → slice_get lines (jump jumps n) ≡ Some (onward f k l)
