-- The asks of a chatter that gives the rows of a list.
use Rattle.std.specs.Prelude.{◌≡◌, ℕ, zero, suc, ◌+◌, ◌-◌, ◌^◌, Bool, true, cond, ◌&&◌, nat_lt, nat_le, pos, List, []}
use Rattle.std.specs.Prelude.{◌∷◌, length, get_or, slice_get, Option, Some, None}
use Rattle.tj_body.specs.RowLists.{is_list_of, are_table, is_reading, asks_given}
use Rattle.tj_chan.specs.Chats.{Await, begin, nothing, channels_added, chat_awaited, most_items, most_channels}
use Rattle.tj_chan.specs.declared.chat.ChatAnswer.{ChatAnswer}
use Rattle.tj_chan.specs.declared.chat.ChatAsk.{ChatAsk}
use Rattle.tj_chan.specs.declared.chat.ChatAsk.TheVariants as ask
use Rattle.tj_chan.specs.declared.table.ChatRow.{ChatRow}
use Rattle.tj_chan.specs.declared.table.ChatRow.TheVariants as row
use Rattle.tj_chan.specs.declared.table.TableChat.{TableChat}

-- Tables: lists of rows. Each spawn names one of the lists, and passes few enough channels; each channel has items, and
-- not too many.
abbrev pub is_chat_row : ℕ → ChatRow → Bool
is_chat_row lists (row.Open k) = nat_lt 0 k && nat_le k most_items
is_chat_row lists (row.Spawn list pass give) = nat_lt list lists && nat_le (length pass) most_channels
is_chat_row lists r = true

-- a list of a table has at most so many rows
abbrev pub most_chat_rows : ℕ
most_chat_rows = 2 ^ 15

-- the list is one of a table with so many lists
abbrev pub is_chat_list : ℕ → List ChatRow → Bool
is_chat_list = is_list_of most_chat_rows is_chat_row

-- the lists are those of a table
abbrev pub is_chat_table : List (List ChatRow) → Bool
is_chat_table = are_table most_chat_rows is_chat_row

-- the chatter that gives the rows of another list of the same table, for a task with n channels
abbrev pub chat_at : TableChat → ℕ → ℕ → TableChat
chat_at c list n = record c { list = list; row = 0; channels = n }

-- what the row asks
abbrev pub chat_row_ask : TableChat → ChatRow → ChatAsk TableChat
chat_row_ask c (row.Open k) = ask.Open k
chat_row_ask c (row.Send k v) = ask.Send k v
chat_row_ask c (row.Recv k) = ask.Recv k
chat_row_ask c (row.Spawn list pass give) = ask.Spawn (chat_at c list (length pass)) pass give
chat_row_ask c (row.Emit i) = ask.Emit i
chat_row_ask c (row.End v) = ask.End v
chat_row_ask c (row.Fail t) = ask.Fail t

-- the table of which the chatter is
abbrev pub chat_lists_of : TableChat → List (List ChatRow)
chat_lists_of c = c.lists.now

-- the rows that the chatter gives
abbrev pub chat_rows_of : TableChat → List ChatRow
chat_rows_of c = get_or c.lists.now c.list []

-- what a row asks, and past the last row End of 0
abbrev pub chat_row_or_end : TableChat → Option ChatRow → ChatAsk TableChat
chat_row_or_end c (Some r) = chat_row_ask c r
chat_row_or_end c None = ask.End (pos 0)

-- the ask of row k
abbrev pub chat_ask_at : TableChat → ℕ → ChatAsk TableChat
chat_ask_at c k = chat_row_or_end c (slice_get (chat_rows_of c) k)

-- A chatter of a table as a chatter: its channels.
abbrev pub table_channels : TableChat → ℕ
table_channels c = c.channels

-- what it asks next, whatever it is answered
abbrev pub table_chat_asks : TableChat → ChatAnswer → ChatAsk TableChat
table_chat_asks c a = chat_ask_at c c.row

-- what it is from then on
abbrev pub table_chat_then : TableChat → ChatAnswer → TableChat
table_chat_then c a = record c { row = suc c.row; channels = c.channels + channels_added a }

-- at most so many rows are left, and the End
abbrev pub table_chat_left : TableChat → ℕ
table_chat_left c = suc (length (chat_rows_of c)) - c.row

-- what is awaited after k rows
abbrev pub chat_await_after : TableChat → ℕ → Await
chat_await_after c zero = begin
chat_await_after c (suc k) = chat_awaited (chat_ask_at c k)

-- whether the chatter is one of a table, and has not given its End yet
abbrev pub is_chat_under_way : TableChat → Bool
is_chat_under_way c = is_reading most_chat_rows is_chat_row c.lists.now c.list c.row

-- a chatter that isn't under way awaits nothing
abbrev pub table_chat_awaits : TableChat → Await
table_chat_awaits c = cond (is_chat_under_way c) (chat_await_after c c.row) nothing

-- Whole lists of asks: the rows' asks in order, and then End of 0
abbrev pub asks_of_chat_rows : TableChat → List ChatRow → List ChatAnswer → List (ChatAsk TableChat)
asks_of_chat_rows c rows [] = []
asks_of_chat_rows c [] (a ∷ rest) = ask.End (pos 0) ∷ asks_of_chat_rows c [] rest
asks_of_chat_rows c (r ∷ rs) (a ∷ rest) = chat_row_ask c r ∷ asks_of_chat_rows c rs rest

-- each chatter of the table gives the rows of its list, whatever it is answered: in order, and then End of 0
abbrev pub GivesChatTable : TableChat → Type 0
GivesChatTable c = (list n : ℕ) (answers : List ChatAnswer)
    → asks_given table_chat_asks table_chat_then (chat_at c list n) answers
    ≡ asks_of_chat_rows c (get_or (chat_lists_of c) list []) answers
