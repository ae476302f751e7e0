-- The names of cells, from who made each and the how-many-th thing it was of its maker.
use Rattle.std.specs.Prelude.{ℕ, zero, suc, ◌<◌, List, [], ◌∷◌, ◌++◌, length, slice_index_or}
use Rattle.tj_base.specs.ForkOrder.{Name, child}
use Rattle.tj_core.specs.declared.births.Birth.{Birth}

-- the names of the cells when these are born after the cells of the given names
abbrev pub names_after : List Name → List Birth → List Name
names_after names [] = names
names_after names (b ∷ bs) = names_after (names ++ child (slice_index_or names b.maker []) b.number ∷ []) bs

-- the names of all cells, the root's first
abbrev pub names_of : List Birth → List Name
names_of births = names_after ([] ∷ []) births

-- the name of a cell
abbrev pub name_of : List Birth → ℕ → Name
name_of births c = slice_index_or (names_of births) c []

-- the birth of the cell c + 1
abbrev pub birth_at : List Birth → ℕ → Birth
birth_at births c = slice_index_or births c (record { maker = 0; number = 0 })

-- the maker of a cell: the root's is the root itself
abbrev pub maker_of : List Birth → ℕ → ℕ
maker_of births zero = 0
maker_of births (suc c) = (birth_at births c).maker

-- each maker was there before what it made
abbrev pub AreBorn : List Birth → Type 0
AreBorn births = (c : ℕ) → c < length births → (birth_at births c).maker < suc c
