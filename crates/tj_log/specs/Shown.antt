-- What callers see of a seat and of a table.
use Rattle.std.specs.Prelude.{ℕ, Bool, List}
use Rattle.atomic_table.specs.Table.{Me}
use Rattle.atomic_table.specs.Seated.{TableId}
use Rattle.tj_log.specs.declared.entry.Entry.{Entry}

-- a seat: its table, its number, the caller's view with the slots that it has, its own steps, the last first, the
-- logs of the seats that it has taken in, whether it is the first seat, which was never split and has taken in none, the
-- view that it had before each of its steps, the last first, and those before the steps of each log that it has taken in
pub record SeatShown (S V : Type 0) : Type 0 where
  pub table_id : TableId
  pub id : ℕ
  pub me : Me S V
  pub log : List Entry
  pub took : List (List Entry)
  pub lone : Bool
  pub befores : List V
  pub took_befores : List (List V)

-- a table: which one it is, and what it was told when it was made
pub record SharedShown (K : Type 0) : Type 0 where
  pub table_id : TableId
  pub key : K

-- the same under the name that atomic_table has for it
pub record TableShown (K : Type 0) : Type 0 where
  pub shared : SharedShown K
