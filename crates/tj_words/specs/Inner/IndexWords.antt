-- The cell of a word, and which of the cell's words it is, by the index of the word.
use Rattle.std.specs.Prelude.{ℕ, ◌-◌, ◌/◌, ◌%◌, cond, nat_eq}
use Rattle.tj_words.specs.declared.offsets.Once.{Once}
use Rattle.tj_words.specs.declared.offsets.Once.TheVariants.{Tag, Bits, Parent, Kid, Depth, Jump}

-- the cell of which the word at an index is one, where it is none of the table's own
abbrev pub cell_at : ℕ → ℕ
cell_at i = (i - 4) / 10

-- the word of a cell that is written once and stands behind so many others
abbrev pub once_by : ℕ → Once
once_by k =
    cond (nat_eq k 2) Tag
    (cond (nat_eq k 3) Bits
    (cond (nat_eq k 4) Parent
    (cond (nat_eq k 5) Kid
    (cond (nat_eq k 6) Depth
    Jump))))

-- the word that is written once at an index
abbrev pub once_of : ℕ → Once
once_of i = once_by ((i - 4) % 10)
