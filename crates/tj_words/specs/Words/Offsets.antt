-- Which word is which.
use Rattle.std.specs.Prelude.{ℕ, ◌+◌, ◌*◌, List, slice_index_or}
use Rattle.tj_words.specs.declared.offsets.Once.{Once}
use Rattle.tj_words.specs.declared.offsets.Once.TheVariants.{Tag, Bits, Parent, Kid, Depth, Jump}

-- the word at an index
abbrev pub word : List ℕ → ℕ → ℕ
word words i = slice_index_or words i 0

-- the words of the table: the number of draws, LIVE, OTHERS and STOP
abbrev pub count_at : ℕ
count_at = 0

-- where LIVE stands
abbrev pub live_at : ℕ
live_at = 1

-- where OTHERS stands
abbrev pub others_at : ℕ
others_at = 2

-- where STOP stands
abbrev pub stop_at : ℕ
stop_at = 3

-- how many words there are for so many cells
abbrev pub words_for : ℕ → ℕ
words_for cells = 4 + 10 * cells

-- the first word of a cell
abbrev pub first_word : ℕ → ℕ
first_word cell = 4 + 10 * cell

-- the words of a cell
abbrev pub own_at : ℕ → ℕ
own_at cell = first_word cell

-- where PHASE of a cell stands
abbrev pub phase_at : ℕ → ℕ
phase_at cell = first_word cell + 1

-- where a word of a cell stands that is written once
abbrev pub once_at : ℕ → Once → ℕ
once_at cell Tag = first_word cell + 2
once_at cell Bits = first_word cell + 3
once_at cell Parent = first_word cell + 4
once_at cell Kid = first_word cell + 5
once_at cell Depth = first_word cell + 6
once_at cell Jump = first_word cell + 7

-- where HEAD of a cell stands
abbrev pub head_at : ℕ → ℕ
head_at cell = first_word cell + 8

-- where NEXT of a task stands
abbrev pub next_at : ℕ → ℕ
next_at cell = first_word cell + 9
