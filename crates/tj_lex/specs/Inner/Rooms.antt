-- The bytes of a name, wherever they lie.
use Rattle.std.specs.Prelude.{ℕ, ◌≤◌, List, take}
use Rattle.tj_lex.specs.declared.room.Room.{Room}
use Rattle.tj_lex.specs.declared.room.Room.TheVariants.{Short, Long}

-- the bytes
abbrev pub bytes_in : Room → List ℕ
bytes_in (Short len bytes) = take len bytes
bytes_in (Long bytes) = bytes.items

-- no more bytes are told than lie in place
abbrev pub IsRoom : Room → Type 0
IsRoom (Short len bytes) = len ≤ 30
IsRoom (Long bytes) = Unit {0}
