-- Where a text that is no script has its fault: the line that `tj` writes, the source line, and a caret below.
use Rattle.std.specs.Prelude.{ℕ, zero, suc, ◌-◌, ◌==◌, cond, List, [], ◌∷◌, ◌++◌, codes, map, take, Option, Some, None}
use Rattle.std.specs.Prelude.{slice_get, unwrap_or}
use Rattle.tj_command.specs.ScriptTexts.{fault_line}
use Rattle.tj_syntax.specs.ScriptTexts.{position_of}
use Rattle.tj_syntax.specs.declared.script_text.NoScript.{NoScript}
use Rattle.tj_lex.specs.Bytes.{line_feed}
use Rattle.tj_lex.specs.declared.place.Place.{Place}

-- a text from its next line on
abbrev pub next_line : List ℕ → List ℕ
next_line [] = []
next_line (b ∷ text) = cond (b == line_feed) text (next_line text)

-- a text from behind so many lines on
abbrev pub behind_lines : ℕ → List ℕ → List ℕ
behind_lines zero text = text
behind_lines (suc n) text = behind_lines n (next_line text)

-- these lines, with a byte more in front of the first
abbrev pub first_longer : ℕ → List (List ℕ) → List (List ℕ)
first_longer b [] = (b ∷ []) ∷ []
first_longer b (l ∷ ls) = (b ∷ l) ∷ ls

-- the lines of a text, without their line feeds
abbrev pub lines_of : List ℕ → List (List ℕ)
lines_of [] = [] ∷ []
lines_of (b ∷ text) = cond (b == line_feed) ([] ∷ lines_of text) (first_longer b (lines_of text))

-- the one of these lines that has this number, of which the first is 1
abbrev pub line_in : List (List ℕ) → ℕ → List ℕ
line_in lines n = unwrap_or (slice_get lines (n - 1)) []

-- the line of a text that has this number
abbrev pub line_at : ℕ → List ℕ → List ℕ
line_at n text = line_in (lines_of text) n

-- what stands below a byte in front of the caret: a tab below a tab, and else a space
abbrev pub below : ℕ → ℕ
below b = cond (b == 9) 9 32

-- a line, and a caret below this column
abbrev pub caret_below : List ℕ → ℕ → List ℕ
caret_below line column = line ++ codes "\n" ++ map below (take (column - 1) line) ++ codes "^\n"

-- the one of these lines that has a position, and a caret below that position, where there is one
abbrev pub caret_in : List (List ℕ) → Option Place → List ℕ
caret_in lines None = []
caret_in lines (Some p) = caret_below (line_in lines p.line) p.column

-- what is told of a text with this fault
abbrev pub fault_text : List ℕ → NoScript → List ℕ
fault_text text fault = fault_line fault ++ caret_in (lines_of text) (position_of fault)
