-- The word of an owner, and the owner of a word.
use Rattle.std.specs.Prelude.{ℕ, zero, suc, Option, Some, None}
use Rattle.tj_base.specs.declared.cell.CellId.{CellId}

-- the number of an owner
abbrev pub owner_number : Option CellId → Option ℕ
owner_number None = None
owner_number (Some task) = Some task.0

-- the word of an owner: nobody is 0
abbrev pub owner_word : Option ℕ → ℕ
owner_word None = 0
owner_word (Some task) = suc task

-- the owner of a word
abbrev pub owner_in : ℕ → Option ℕ
owner_in zero = None
owner_in (suc task) = Some task
